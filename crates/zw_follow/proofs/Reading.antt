-- A stream, read line by line.
use Rattle.std.proofs.Common.{◌≡◌, ℕ, ◌+◌, ◌≤◌, List, [], ◌∷◌, ◌++◌, refl, sym, ap, ◌∙◌, subst, arith, append_assoc, Option, Some, None, Result, Ok, Err}
use Rattle.std.specs.Prelude.{◌≢◌, IfOk, IfSome, cond, unwrap_or}
use Rattle.std.specs.Io.KnownBytes.{prepend_known}
use Rattle.ev_fields.specs.declared.fault.JsonFault.{JsonFault}
use Rattle.ev_http.specs.Messages.{HoldsResponse}
use Rattle.ev_http.specs.Stream.{IsAt, LineAnswer, ReadsLine}
use Rattle.ev_http.specs.Taking.{Told, Took, failed, is_read_fault, risen}
use Rattle.ev_http.specs.declared.fault.HttpFault.{HttpFault}
use Rattle.ev_http.specs.declared.fault.HttpFault.TheVariants as http
use Rattle.ev_http.specs.declared.lines.Lines.{Lines}
use Rattle.ev_http.specs.declared.taking.Tally.{Tally}
use Rattle.ev_json.specs.Answers.{line_in}
use Rattle.ev_json.specs.Bodies.{FaultOf, reads_line}
use Rattle.ev_json.specs.Ranges.{LineFits}
use Rattle.ev_json.specs.declared.line.Line.{Line}
use Rattle.ev_json.specs.declared.line.Line.TheVariants as line
use Rattle.ev_faults.specs.declared.fault.Fault.{Fault}
use Rattle.ev_faults.specs.declared.fault.Fault.TheVariants as fault
use Rattle.zx_outside.specs.Counts.{one_more}
use Rattle.zx_outside.proofs.Streams.{Gives-append}
use Rattle.zw_follow.specs.Publishing.{Said}
use Rattle.zw_follow.specs.Streams.{GivesNone, IsMissed, IsReadTo, ReadsOn, StopsAt, idles_of, minute, spelled, taken_after, taken_of}
use Rattle.zw_follow.specs.declared.stream.Taken.{Taken}
use Rattle.zw_follow.specs.declared.stream.Taken.TheVariants as taken

-- ---- lines as bytes

pub spelled_join : (said more : List Said) → spelled (said ++ more) ≡ spelled said ++ spelled more
spelled_join [] more = refl
spelled_join (s ∷ said) more = ap (λ (bytes : List ℕ). s.text ++ (10 ∷ bytes)) (spelled_join said more) ∙ sym (append_assoc s.text (10 ∷ spelled said) (spelled more))

-- ---- one call

abbrev is_unknown : Option (List ℕ) → Type 0
is_unknown None = Unit {0}
is_unknown (Some bytes) = ⊥

-- the bytes that are left, where all are known
left_known : (left : Option (List ℕ)) (taken all : List ℕ) → prepend_known taken left ≡ Some all → (rest : List ℕ) × (left ≡ Some rest) × (taken ++ rest ≡ all)
left_known None taken all h = absurd (subst is_unknown h tt)
left_known (Some rest) taken all h = (rest, refl, ap (λ (o : Option (List ℕ)). unwrap_or o []) h)

-- what a call for a line made of the lines and the source
pub record Called {In : Type 0} (tells : In → Told) (lines lines' : Lines In) (result : Result (List ℕ) HttpFault) : Type 0 where
  pub added : List ℕ
  pub before : Tally
  pub after : Tally
  pub took : Took added (failed result) before after (tells lines.source) (tells lines'.source)
  pub begins : before.turns ≡ 0
  pub stands : after ≡ lines'.tally
  pub answers : (taken given : List ℕ) → IsAt lines (tells lines.source) taken given → LineAnswer result lines' (tells lines'.source) (taken ++ added) given
  pub reads : (taken given all body rest : List ℕ) → IsAt lines (tells lines.source) taken given → (tells lines.source).left ≡ Some all → HoldsResponse body rest (taken ++ all) → ReadsLine result given body

pub line_comes : {In : Type 0} (tells : In → Told) (dialled : In) (lines lines' : Lines In) (given text : List ℕ) → Called tells lines lines' (Ok text) → IsReadTo tells dialled lines given
    → IsReadTo tells dialled lines' (given ++ (text ++ 10 ∷ []))
line_comes tells dialled lines lines' given text c h = record {
  taken = h.taken ++ c.added;
  gives = Gives-append h.taken c.added _ _ _ _ _ _ h.gives (c.took).gives;
  at = (c.answers h.taken given h.at).2;
  calm = (c.took).faults ∙ h.calm;
}

line_is_late : {In : Type 0} (tells : In → Told) (dialled : In) (lines lines' : Lines In) (given : List ℕ) → Called tells lines lines' (Err http.Idle) → IsReadTo tells dialled lines given → IsReadTo tells dialled lines' given
line_is_late tells dialled lines lines' given c h = record {
  taken = h.taken ++ c.added;
  gives = Gives-append h.taken c.added _ _ _ _ _ _ h.gives (c.took).gives;
  at = (c.answers h.taken given h.at).0;
  calm = (c.took).faults ∙ h.calm;
}

-- it waits a minute at the most
waits : {In : Type 0} (tells : In → Told) (lines lines' : Lines In) (result : Result (List ℕ) HttpFault) → Called tells lines lines' result → idles_of tells lines' ≤ idles_of tells lines + minute
waits tells lines lines' result c =
    let turns = c.begins in
    let most = (c.took).within in
    let counted = (c.took).idles in
    omega (arith, turns, most, counted)

-- and a minute, where no line came in time
waits_out : {In : Type 0} (tells : In → Told) (dialled : In) (lines lines' : Lines In) (given : List ℕ) → Called tells lines lines' (Err http.Idle) → IsReadTo tells dialled lines given → risen minute (idles_of tells lines) ≤ idles_of tells lines'
waits_out tells dialled lines lines' given c h =
    let turns = c.begins in
    let all = ap (λ (t : Tally). t.turns) c.stands ∙ (c.answers h.taken given h.at).2 in
    let counted = (c.took).idles in
    omega (arith, turns, all, counted)

no_line_comes : {In : Type 0} (tells : In → Told) (dialled : In) (lines lines' : Lines In) (given : List ℕ) (why : HttpFault) → why ≢ http.Idle → Called tells lines lines' (Err why) → IsReadTo tells dialled lines given
    → GivesNone tells dialled given why
no_line_comes tells dialled lines lines' given why in_time c h = record {
  in_time = in_time;
  lines = lines';
  taken = h.taken ++ c.added;
  gives = Gives-append h.taken c.added _ _ _ _ _ _ h.gives (c.took).gives;
  answers = c.answers h.taken given h.at;
  faults = (c.took).faults ∙ ap (λ (n : ℕ). cond (is_read_fault why) (one_more n) n) h.calm;
  holds = λ all body rest known held.
      let r = left_known (tells lines.source).left h.taken all (sym (h.gives).shrunk ∙ known) in
      c.reads h.taken given r.0 body rest h.at r.1 (subst (HoldsResponse body rest) (sym r.2) held);
}

-- a fault, for the caller
pub line_is_missed : {In : Type 0} (tells : In → Told) (dialled : In) (lines lines' : Lines In) (said : List Said) (why : HttpFault) (answer : Result (Option Line) Fault) → Called tells lines lines' (Err why) → IsMissed why answer
    → IsReadTo tells dialled lines (spelled said) → ReadsOn tells dialled answer lines lines' said
line_is_missed tells dialled lines lines' said why (Ok None) c missed h =
    let late : Called tells lines lines' (Err http.Idle) = subst (λ (w : HttpFault). Called tells lines lines' (Err w)) missed c in
    (line_is_late tells dialled lines lines' (spelled said) late h, waits_out tells dialled lines lines' (spelled said) late h, waits tells lines lines' (Err http.Idle) late)
line_is_missed tells dialled lines lines' said why (Ok (Some l)) c missed h = absurd missed
line_is_missed tells dialled lines lines' said why (Err told) c missed h =
    subst (StopsAt tells dialled (spelled said)) (sym missed.0) (no_line_comes tells dialled lines lines' (spelled said) why missed.1 c h)

pub missed_fits : (why : HttpFault) (answer : Result (Option Line) Fault) → IsMissed why answer → IfOk answer (λ found. IfSome found LineFits)
missed_fits why (Ok None) missed = tt
missed_fits why (Ok (Some l)) missed = absurd missed
missed_fits why (Err told) missed = tt

-- the line that came says this
pub line_is_said : {In : Type 0} (tells : In → Told) (dialled : In) (lines lines' : Lines In) (said : List Said) (text : List ℕ) (l : Line) → Called tells lines lines' (Ok text) → reads_line text l
    → IsReadTo tells dialled lines (spelled said) → ReadsOn tells dialled (Ok (Some l)) lines lines' said
line_is_said tells dialled lines lines' said text l c read h =
    let s : Said = record { text = text; line = l; read = read } in
    (s, refl, subst (IsReadTo tells dialled lines') (sym (spelled_join said (s ∷ []))) (line_comes tells dialled lines lines' (spelled said) text c h), waits tells lines lines' (Ok text) c)

-- the line that came cannot be read
pub line_is_unreadable : {In : Type 0} (tells : In → Told) (dialled : In) (lines lines' : Lines In) (said : List Said) (text : List ℕ) (why : JsonFault) → Called tells lines lines' (Ok text) → FaultOf line_in text why
    → IsReadTo tells dialled lines (spelled said) → ReadsOn tells dialled (Err (fault.Json why)) lines lines' said
line_is_unreadable tells dialled lines lines' said text why c broken h =
    record { lines = lines'; text = text; comes = line_comes tells dialled lines lines' (spelled said) text c h; fault = broken }

-- ---- what a stream gave

after_swap : (l m : Line) (gave : Taken) → taken_after l (taken_after m gave) ≡ taken_after m (taken_after l gave)
after_swap (line.Created r) (line.Created r') taken.Nothing = refl
after_swap (line.Created r) (line.Created r') taken.Created = refl
after_swap (line.Created r) (line.Created r') taken.Events = refl
after_swap (line.Created r) (line.Events revision kvs) gave = refl
after_swap (line.Created r) (line.Compacted rev) gave = refl
after_swap (line.Created r) line.Ended gave = refl
after_swap (line.Events revision kvs) (line.Created r) gave = refl
after_swap (line.Events revision kvs) (line.Events revision' kvs') gave = refl
after_swap (line.Events revision kvs) (line.Compacted rev) gave = refl
after_swap (line.Events revision kvs) line.Ended gave = refl
after_swap (line.Compacted rev) (line.Created r) gave = refl
after_swap (line.Compacted rev) (line.Events revision kvs) gave = refl
after_swap (line.Compacted rev) (line.Compacted rev') gave = refl
after_swap (line.Compacted rev) line.Ended gave = refl
after_swap line.Ended (line.Created r) gave = refl
after_swap line.Ended (line.Events revision kvs) gave = refl
after_swap line.Ended (line.Compacted rev) gave = refl
after_swap line.Ended line.Ended gave = refl

taken_of_push : (said : List Said) (s : Said) → taken_of (said ++ s ∷ []) ≡ taken_after s.line (taken_of said)
taken_of_push [] s = refl
taken_of_push (first ∷ said) s = ap (taken_after first.line) (taken_of_push said s) ∙ after_swap first.line s.line (taken_of said)

pub taken_push : (gave : Taken) (said : List Said) (s : Said) (l : Line) → s.line ≡ l → gave ≡ taken_of said → taken_after l gave ≡ taken_of (said ++ s ∷ [])
taken_push gave said s l is h = ap (taken_after l) h ∙ ap (λ (m : Line). taken_after m (taken_of said)) (sym is) ∙ sym (taken_of_push said s)
