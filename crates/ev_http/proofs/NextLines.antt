-- The lines of a response that is there are those of its body.
use Rattle.std.proofs.Common.{◌≡◌, ℕ, List, [], ◌∷◌, ◌++◌, length, Some, Result, Ok, Err, Bool, refl, sym, ap, subst, ◌∙◌, append_assoc, length-append, arith, inl, inr}
use Rattle.ev_http.specs.declared.fault.HttpFault.{HttpFault}
use Rattle.ev_http.specs.declared.fault.HttpFault.TheVariants as fault
use Rattle.ev_http.specs.declared.body.Part.{Part}
use Rattle.ev_http.specs.declared.body.Part.TheVariants as part
use Rattle.ev_http.specs.declared.lines.State.{State}
use Rattle.ev_http.specs.declared.lines.State.TheVariants as state
use Rattle.ev_http.specs.declared.taking.Tally.{Tally}
use Rattle.zx_outside.specs.Reading.{HasNoFeed}
use Rattle.ev_http.specs.Taking.{Told, Took, Ends}
use Rattle.ev_http.specs.Body.{Came, EndsWhole, IsOpen, announced}
use Rattle.ev_http.specs.Messages.{HoldsResponse}
use Rattle.ev_http.specs.Stream.{InBody, AtLine, IsOver, AnswersLine, ReadsLine}
use Rattle.ev_http.proofs.Wholes.{GoesOnBy, came_after, whole_came, breaks_none}
use Rattle.ev_http.proofs.Holds.{left_after, at_end, never_response, open_response, refused_response, same_framing}

body_front : (p : Part) (line front taken left body rest : List ℕ) (source : Told) → HoldsResponse body rest (taken ++ left) → InBody p line front source taken → GoesOnBy (announced p) front body × (IsOpen p line → left ≡ [] → ⊥)
body_front p line front taken left body rest source holds b =
    let same = same_framing b.h b.framed b.head b.after taken left body rest (taken ++ left) holds b.whole b.says b.bytes_are refl in
    came_after p (length b.head) b.framed line b.after front left body holds.after rest same.0 b.came same.1 same.2

body_whole : (p : Part) (line front taken left body rest : List ℕ) (source : Told) → HoldsResponse body rest (taken ++ left) → (Ends source → left ≡ []) → InBody p line front source taken → p ≡ part.Whole → front ≡ body
body_whole p line front taken left body rest source holds none b whole =
    let same = same_framing b.h b.framed b.head b.after taken left body rest (taken ++ left) holds b.whole b.says b.bytes_are refl in
    let came = subst (λ (x : Part). Came (length b.head) b.framed x line b.after front) whole b.came in
    let ends = subst (λ (x : Part). EndsWhole b.framed x source) whole b.ends in
    (whole_came b.framed b.after front left body holds.after rest source came ends same.0 same.1 same.2 none).0

line_next : (st : State) (text line kept taken given left body rest : List ℕ) (scanned reads : ℕ) (source : Told) → HoldsResponse body rest (taken ++ left) → AtLine st line kept scanned reads source taken (given ++ (text ++ 10 ∷ []))
    → (more : List ℕ) × (body ≡ given ++ (text ++ (10 ∷ more)))
line_next state.Head text line kept taken given left body rest scanned reads source holds at = absurd (omega (arith, ap length at.reached.2, length-append given (text ++ 10 ∷ []), length-append text (10 ∷ [])))
line_next (state.Refused why) text line kept taken given left body rest scanned reads source holds at = absurd at.reached
line_next (state.Body p) text line kept taken given left body rest scanned reads source holds at =
    let on = (body_front p line ((given ++ (text ++ 10 ∷ [])) ++ kept) taken left body rest source holds at.reached.0).0 in (
      kept ++ on.more,
      on.body_is ∙ append_assoc (given ++ (text ++ 10 ∷ [])) kept on.more ∙ append_assoc given (text ++ 10 ∷ []) (kept ++ on.more) ∙ ap (λ (x : List ℕ). given ++ x) (append_assoc text (10 ∷ []) (kept ++ on.more)),
    )

line_over : (st : State) (line kept taken given left body rest : List ℕ) (scanned reads : ℕ) (source : Told) → HoldsResponse body rest (taken ++ left) → (Ends source → left ≡ []) → AtLine st line kept scanned reads source taken given → IsOver st line kept source
    → (more : List ℕ) × (body ≡ given ++ more) × HasNoFeed more
line_over state.Head line kept taken given left body rest scanned reads source holds none at over = absurd (open_response taken left body rest (taken ++ left) holds refl at.reached.0 (none over.0))
line_over (state.Refused why) line kept taken given left body rest scanned reads source holds none at over = absurd over
line_over (state.Body p) line kept taken given left body rest scanned reads source holds none at over =
    elim over.2 [
      | inl whole ↦ (kept, sym (body_whole p line (given ++ kept) taken left body rest source holds none at.reached.0 whole), over.0)
      | inr cut ↦ absurd ((body_front p line (given ++ kept) taken left body rest source holds at.reached.0).1 cut.0 (none cut.1))
    ]

line_reads : (r : Result (List ℕ) HttpFault) (st : State) (line kept taken given left body rest : List ℕ) (scanned : ℕ) (tally : Tally) (source : Told) → HoldsResponse body rest (taken ++ left) → (Ends source → left ≡ [])
    → AnswersLine r st line kept scanned tally source taken given → ReadsLine r given body
line_reads (Ok text) st line kept taken given left body rest scanned tally source holds none answer = line_next st text line kept taken given left body rest scanned tally.taken source holds answer.2
line_reads (Err (fault.Ended n)) st line kept taken given left body rest scanned tally source holds none answer = line_over st line kept taken given left body rest scanned tally.taken source holds none answer.0 answer.1
line_reads (Err (fault.TooLong n)) st line kept taken given left body rest scanned tally source holds none answer =
    let long = answer.1 in
    let on = (body_front long.part long.line (given ++ (long.text ++ long.rest)) taken left body rest source holds long.inside).0 in (
      long.text,
      long.rest ++ on.more,
      on.body_is ∙ append_assoc given (long.text ++ long.rest) on.more ∙ ap (λ (x : List ℕ). given ++ x) (append_assoc long.text long.rest on.more),
      long.no_feed,
      long.long,
    )
line_reads (Err fault.Head) st line kept taken given left body rest scanned tally source holds none answer = never_response taken left body rest (taken ++ left) holds refl answer.1
line_reads (Err (fault.Status n)) st line kept taken given left body rest scanned tally source holds none answer = refused_response (Err (fault.Status n)) taken left body rest (taken ++ left) holds refl answer.1
line_reads (Err (fault.Body place)) st line kept taken given left body rest scanned tally source holds none answer =
    elim answer [
      | inl bad ↦ refused_response (Err (fault.Body place)) taken left body rest (taken ++ left) holds refl bad.1
      | inr on ↦ (let same = same_framing on.h on.framed on.head on.after taken left body rest (taken ++ left) holds on.whole on.says on.bytes_are refl in breaks_none (length on.head) place on.framed on.after left body holds.after rest same.0 on.body same.1)
    ]
line_reads (Err fault.Idle) st line kept taken given left body rest scanned tally source holds none answer = tt
line_reads (Err fault.ReadFault) st line kept taken given left body rest scanned tally source holds none answer = tt
line_reads (Err fault.Memory) st line kept taken given left body rest scanned tally source holds none answer = tt
line_reads (Err fault.Route) st line kept taken given left body rest scanned tally source holds none answer = answer
line_reads (Err fault.WriteFault) st line kept taken given left body rest scanned tally source holds none answer = answer

-- a line of a response that is there
pub next_reads : (r : Result (List ℕ) HttpFault) (st : State) (line kept taken given all body rest added : List ℕ) (scanned : ℕ) (faulty : Bool) (tally tally' : Tally) (source source' : Told) → Took added faulty tally tally' source source'
    → AnswersLine r st line kept scanned tally' source' (taken ++ added) given → source.left ≡ Some all → HoldsResponse body rest (taken ++ all) → ReadsLine r given body
next_reads r st line kept taken given all body rest added scanned faulty tally tally' source source' took answer known holds =
    let got = left_after added all source'.left (sym known ∙ took.gives.shrunk) in
    let moved = subst (λ (x : List ℕ). HoldsResponse body rest x) (ap (λ (x : List ℕ). taken ++ x) got.2 ∙ sym (append_assoc taken added got.0)) holds in
    line_reads r st line kept (taken ++ added) given got.0 body rest scanned tally' source' moved (at_end source' got.0 got.1) answer
