-- The lines of a body as they come.
use Rattle.std.proofs.Common.{◌≡◌, ◌≢◌, ℕ, ◌+◌, ◌<◌, ◌≤◌, List, [], ◌∷◌, ◌++◌, length, take, drop, get_or, Option, Some, None, Result, Ok, Err, refl, sym, ap, subst, ◌∙◌, append_assoc, append-nil, length-append, length-drop, length-take-le, arith, inl, inr, ◌-◌, ◌^◌}
use Rattle.std.proofs.lemmas.List.{take_more, take-append-drop}
use Rattle.std.proofs.lemmas.List.Elements.{All-take}
use Rattle.httparse.specs.Grammar.{Field, ResponseHead, IsResponseHead, print_response}
use Rattle.ev_http.specs.declared.fault.HttpFault.{HttpFault}
use Rattle.ev_http.specs.declared.fault.HttpFault.TheVariants as fault
use Rattle.ev_http.specs.declared.framing.Framing.{Framing}
use Rattle.ev_http.specs.declared.framing.Framing.TheVariants as framing
use Rattle.ev_http.specs.declared.head.Kind.TheVariants as kind
use Rattle.ev_http.specs.declared.body.Part.{Part}
use Rattle.ev_http.specs.declared.body.Part.TheVariants as part
use Rattle.ev_http.specs.declared.lines.State.{State}
use Rattle.ev_http.specs.declared.lines.State.TheVariants as state
use Rattle.ev_http.specs.declared.taking.Tally.{Tally}
use Rattle.zx_outside.specs.Reading.{HasNoFeed}
use Rattle.ev_http.specs.Taking.{Told, counted, risen}
use Rattle.ev_http.specs.Heads.{IsOpenHead, NeverFits, FitsHead, TakesHead}
use Rattle.ev_http.specs.Body.{Came, EndsWhole, PartAnswer, TakesPart, first_part}
use Rattle.ev_http.specs.Messages.{IsWholeResponse, JudgesResponse}
use Rattle.ev_http.specs.Stream.{InBody, AtLine, AnswersLine, CutsLine, FoundFeed}
use Rattle.ev_http.proofs.Takings.{no_feed-nil}
use Rattle.ev_http.proofs.Heads.{IsOpenHead-nil}
use Rattle.ev_http.proofs.Reading.{came_first, ends_first}

-- ---- in the head

pub at_first : (line kept : List ℕ) (reads : ℕ) (source : Told) → line ≡ [] → kept ≡ [] → reads ≡ 0 → AtLine state.Head line kept 0 reads source [] []
at_first line kept reads source no_line none zero = record { counts = omega (arith, zero); reached = (IsOpenHead-nil kind.Response, no_line, refl, none) }

counts_more : (taken added : List ℕ) (reads reads' : ℕ) → reads ≡ counted (length taken) → reads' ≡ risen (length added) reads → reads' ≡ counted (length (taken ++ added))
counts_more taken added reads reads' was more = omega (arith, was, more, length-append taken added)

came_at : (start : ℕ) (f : Framing) (p : Part) (line body : List ℕ) → start < 2 ^ 64 → p ≡ first_part f start → line ≡ [] → body ≡ [] → Came start f p line [] body
came_at start f p line body fits first no_line none =
    subst (λ (x : Part). Came start f x line [] body) (sym first)
    (subst (λ (x : List ℕ). Came start f (first_part f start) x [] body) (sym no_line) (subst (λ (x : List ℕ). Came start f (first_part f start) [] [] x) (sym none) (came_first f start fits)))

head_whole : (fields : List Field) (bytes : List ℕ) → FitsHead kind.Response fields bytes → (h : ResponseHead) × IsWholeResponse h bytes
head_whole fields bytes fits =
    let h = fits.is_head.0 in
    let few : length h.fields ≤ 64 = subst (λ (x : List Field). length x ≤ 64) fits.is_head.2 fits.few in
    (h, record { is_head = fits.is_head.1; printed = fits.is_head.3; few = few; short = fits.short })

-- a head that came whole, of a response whose body is read
pub head_read : (f : Framing) (st : State) (next : Part) (old kept added new line' taken given : List ℕ) (scanned reads reads' : ℕ) (fields : List Field) (source source' : Told)
    → st ≡ state.Head → AtLine st old kept scanned reads source taken given → new ≡ old ++ added → FitsHead kind.Response fields new
    → ((h : ResponseHead) → IsResponseHead h → new ≡ print_response h → length h.fields ≤ 64 → JudgesResponse (Ok f) h new) → reads' ≡ risen (length added) reads → next ≡ first_part f reads' → line' ≡ []
    → AtLine (state.Body next) line' kept scanned reads' source' (taken ++ added) given
head_read f st next old kept added new line' taken given scanned reads reads' fields source source' head was grown fits judges more first no_line =
    let at = subst (λ (x : State). AtLine x old kept scanned reads source taken given) head was in
    let all : new ≡ taken ++ added = grown ∙ ap (λ (x : List ℕ). x ++ added) at.reached.1 in
    let none : given ++ kept ≡ [] = ap (λ (x : List ℕ). x ++ kept) at.reached.2 ∙ at.reached.3 in
    let counts = counts_more taken added reads reads' at.counts more in
    let whole = head_whole fields new fits in
    let start : reads' ≡ length new = omega (arith, counts, ap length all, fits.short) in
    let begins : next ≡ first_part f (length new) = first ∙ ap (first_part f) start in
    record {
      counts = counts;
      reached = (
        record {
          h = whole.0;
          head = new;
          whole = whole.1;
          framed = f;
          says = judges whole.0 whole.1.is_head whole.1.printed whole.1.few;
          after = [];
          bytes_are = sym all ∙ sym (append-nil new);
          came = came_at (length new) f next line' (given ++ kept) (omega (arith, fits.short)) begins no_line none;
          ends = subst (λ (x : Part). EndsWhole f x source') (sym begins) (ends_first f (length new) source');
        },
        subst (λ (x : List ℕ). HasNoFeed (take scanned x)) (sym at.reached.3) (All-take (λ b. b ≢ 10) scanned [] no_feed-nil),
      );
    }

head_refused : (e : HttpFault) (h : ResponseHead) (st : State) (line kept taken given : List ℕ) (scanned : ℕ) (tally : Tally) (source : Told) → given ≡ [] → IsWholeResponse h taken → JudgesResponse (Err e) h taken
    → AnswersLine (Err e) st line kept scanned tally source taken given
head_refused (fault.Status n) h st line kept taken given scanned tally source none whole says = (none, record { h = h; whole = whole; why = fault.Status n; answered = refl; says = says })
head_refused (fault.Body n) h st line kept taken given scanned tally source none whole says = inl (none, record { h = h; whole = whole; why = fault.Body n; answered = refl; says = says })
head_refused fault.Head h st line kept taken given scanned tally source none whole says = absurd says
head_refused fault.Route h st line kept taken given scanned tally source none whole says = absurd says
head_refused (fault.TooLong n) h st line kept taken given scanned tally source none whole says = absurd says
head_refused (fault.Ended n) h st line kept taken given scanned tally source none whole says = absurd says
head_refused fault.Idle h st line kept taken given scanned tally source none whole says = absurd says
head_refused fault.ReadFault h st line kept taken given scanned tally source none whole says = absurd says
head_refused fault.WriteFault h st line kept taken given scanned tally source none whole says = absurd says
head_refused fault.Memory h st line kept taken given scanned tally source none whole says = absurd says

-- a head that came whole, and is at fault
pub head_refuses : (e : HttpFault) (st st' : State) (old kept added new line' taken given : List ℕ) (scanned reads : ℕ) (tally : Tally) (fields : List Field) (source source' : Told)
    → st ≡ state.Head → AtLine st old kept scanned reads source taken given → new ≡ old ++ added → FitsHead kind.Response fields new
    → ((h : ResponseHead) → IsResponseHead h → new ≡ print_response h → length h.fields ≤ 64 → JudgesResponse (Err e) h new) → AnswersLine (Err e) st' line' kept scanned tally source' (taken ++ added) given
head_refuses e st st' old kept added new line' taken given scanned reads tally fields source source' head was grown fits judges =
    let at = subst (λ (x : State). AtLine x old kept scanned reads source taken given) head was in
    let all : new ≡ taken ++ added = grown ∙ ap (λ (x : List ℕ). x ++ added) at.reached.1 in
    let whole = head_whole fields new fits in
    let says = judges whole.0 whole.1.is_head whole.1.printed whole.1.few in
    head_refused e whole.0 st' line' kept (taken ++ added) given scanned tally source' at.reached.2 (subst (λ (x : List ℕ). IsWholeResponse whole.0 x) all whole.1) (subst (λ (x : List ℕ). JudgesResponse (Err e) whole.0 x) all says)

-- what came of a head that is not whole
pub head_begun : (st : State) (line kept taken given : List ℕ) (scanned reads : ℕ) (source : Told) → st ≡ state.Head → AtLine st line kept scanned reads source taken given → IsOpenHead kind.Response line
head_begun st line kept taken given scanned reads source head was =
    let at = subst (λ (x : State). AtLine x line kept scanned reads source taken given) head was in
    subst (λ (x : List ℕ). IsOpenHead kind.Response x) (sym at.reached.1) at.reached.0

head_open : (old kept added new taken given : List ℕ) (scanned reads reads' : ℕ) (source source' : Told) → AtLine state.Head old kept scanned reads source taken given → new ≡ old ++ added → IsOpenHead kind.Response new → reads' ≡ risen (length added) reads
    → AtLine state.Head new kept scanned reads' source' (taken ++ added) given
head_open old kept added new taken given scanned reads reads' source source' at grown begun more =
    let all : new ≡ taken ++ added = grown ∙ ap (λ (x : List ℕ). x ++ added) at.reached.1 in
    record { counts = counts_more taken added reads reads' at.counts more; reached = (subst (λ (x : List ℕ). IsOpenHead kind.Response x) all begun, all, at.reached.2, at.reached.3) }

head_stopped : (e : HttpFault) (old kept added new taken given : List ℕ) (scanned reads : ℕ) (tally : Tally) (source source' : Told) → AtLine state.Head old kept scanned reads source taken given
    → TakesHead (Err e) kind.Response old added new source' tally → tally.taken ≡ risen (length added) reads → AnswersLine (Err e) state.Head new kept scanned tally source' (taken ++ added) given
head_stopped fault.Idle old kept added new taken given scanned reads tally source source' at got more = (head_open old kept added new taken given scanned reads tally.taken source source' at got.0 got.1 more, tt, got.2)
head_stopped fault.ReadFault old kept added new taken given scanned reads tally source source' at got more = (head_open old kept added new taken given scanned reads tally.taken source source' at got.0 got.1 more, tt)
head_stopped (fault.Ended n) old kept added new taken given scanned reads tally source source' at got more = (head_open old kept added new taken given scanned reads tally.taken source source' at got.0 got.1 more, (got.2, got.4), got.3)
head_stopped fault.Head old kept added new taken given scanned reads tally source source' at got more =
    (at.reached.2, subst (λ (x : List ℕ). NeverFits kind.Response x) (got.0 ∙ ap (λ (x : List ℕ). x ++ added) at.reached.1) got.1)
head_stopped fault.Memory old kept added new taken given scanned reads tally source source' at got more = tt
head_stopped (fault.Status n) old kept added new taken given scanned reads tally source source' at got more = absurd got
head_stopped fault.Route old kept added new taken given scanned reads tally source source' at got more = absurd got
head_stopped (fault.Body n) old kept added new taken given scanned reads tally source source' at got more = absurd got
head_stopped (fault.TooLong n) old kept added new taken given scanned reads tally source source' at got more = absurd got
head_stopped fault.WriteFault old kept added new taken given scanned reads tally source source' at got more = absurd got

-- why the taking of a head stopped
pub head_stops : (e : HttpFault) (st : State) (old kept added new taken given : List ℕ) (scanned reads : ℕ) (tally : Tally) (source source' : Told) → st ≡ state.Head → AtLine st old kept scanned reads source taken given
    → (IsOpenHead kind.Response old → TakesHead (Err e) kind.Response old added new source' tally) → tally.taken ≡ risen (length added) reads → AnswersLine (Err e) st new kept scanned tally source' (taken ++ added) given
head_stops e st old kept added new taken given scanned reads tally source source' head was got more =
    let at = subst (λ (x : State). AtLine x old kept scanned reads source taken given) head was in
    subst (λ (x : State). AnswersLine (Err e) x new kept scanned tally source' (taken ++ added) given) (sym head)
    (head_stopped e old kept added new taken given scanned reads tally source source' at (got (subst (λ (x : List ℕ). IsOpenHead kind.Response x) (sym at.reached.1) at.reached.0)) more)

-- ---- in the body

part_answer : (r : Result Part HttpFault) (p : Part) (line added line' kept kept' taken given : List ℕ) (scanned reads : ℕ) (tally : Tally) (source source' : Told)
    → (at : AtLine (state.Body p) line kept scanned reads source taken given) → tally.taken ≡ risen (length added) reads
    → ((before : List ℕ) → TakesPart r p line (before ++ kept) added line' (before ++ kept') source' tally)
    → PartAnswer r (length at.reached.0.head) at.reached.0.framed p line' (at.reached.0.after ++ added) (given ++ kept') source' tally
part_answer r p line added line' kept kept' taken given scanned reads tally source source' at more takes =
    let b = at.reached.0 in
    let size : tally.taken ≡ counted (length b.head + length (b.after ++ added)) =
    omega (arith, counts_more taken added reads tally.taken at.counts more, length-append taken added, ap length b.bytes_are, length-append b.head b.after, length-append b.after added) in
    takes given (length b.head) b.framed b.after b.came size

in_body : (p next : Part) (line added line' body body' taken : List ℕ) (source source' : Told) → (b : InBody p line body source taken)
    → Came (length b.head) b.framed next line' (b.after ++ added) body' → EndsWhole b.framed next source' → InBody next line' body' source' (taken ++ added)
in_body p next line added line' body body' taken source source' b came ends = record {
  h = b.h;
  head = b.head;
  whole = b.whole;
  framed = b.framed;
  says = b.says;
  after = b.after ++ added;
  bytes_are = ap (λ (x : List ℕ). x ++ added) b.bytes_are ∙ append_assoc b.head b.after added;
  came = came;
  ends = ends;
}

-- a part more of the body
pub part_goes : (p next : Part) (line added line' kept kept' taken given : List ℕ) (scanned scanned' reads : ℕ) (tally : Tally) (source source' : Told)
    → AtLine (state.Body p) line kept scanned reads source taken given → tally.taken ≡ risen (length added) reads
    → ((before : List ℕ) → TakesPart (Ok next) p line (before ++ kept) added line' (before ++ kept') source' tally)
    → HasNoFeed kept → take (length kept) kept' ≡ kept → scanned' ≡ length kept → AtLine (state.Body next) line' kept' scanned' tally.taken source' (taken ++ added) given
part_goes p next line added line' kept kept' taken given scanned scanned' reads tally source source' at more takes none front known =
    let got = part_answer (Ok next) p line added line' kept kept' taken given scanned reads tally source source' at more takes in
    record {
      counts = counts_more taken added reads tally.taken at.counts more;
      reached = (in_body p next line added line' (given ++ kept) (given ++ kept') taken source source' at.reached.0 got.0 got.1, subst HasNoFeed (sym (ap (λ (n : ℕ). take n kept') known ∙ front)) none);
    }

ends_inside : (f : Framing) (p : Part) (source : Told) → p ≢ part.Whole → EndsWhole f p source
ends_inside framing.Chunked p source other = tt
ends_inside (framing.Counted n) p source other = tt
ends_inside framing.ToEnd part.Whole source other = absurd (other refl)
ends_inside framing.ToEnd part.ToEnd source other = tt
ends_inside framing.ToEnd (part.Counted left) source other = tt
ends_inside framing.ToEnd (part.Size place) source other = tt
ends_inside framing.ToEnd (part.Content place left) source other = tt
ends_inside framing.ToEnd (part.Gap place) source other = tt
ends_inside framing.ToEnd (part.Trailer place fields) source other = tt

part_stays : (p : Part) (line added line' kept kept' taken given : List ℕ) (scanned scanned' reads reads' : ℕ) (source source' : Told)
    → (at : AtLine (state.Body p) line kept scanned reads source taken given) → reads' ≡ risen (length added) reads
    → Came (length at.reached.0.head) at.reached.0.framed p line' (at.reached.0.after ++ added) (given ++ kept') → p ≢ part.Whole → HasNoFeed kept → kept' ≡ kept
    → AtLine (state.Body p) line' kept' scanned' reads' source' (taken ++ added) given
part_stays p line added line' kept kept' taken given scanned scanned' reads reads' source source' at more came other none same = record {
  counts = counts_more taken added reads reads' at.counts more;
  reached = (
    in_body p p line added line' (given ++ kept) (given ++ kept') taken source source' at.reached.0 came (ends_inside at.reached.0.framed p source' other),
    subst (λ (x : List ℕ). HasNoFeed (take scanned' x)) (sym same) (All-take (λ b. b ≢ 10) scanned' kept none),
  );
}

part_stopped : (e : HttpFault) (p : Part) (line added line' kept kept' taken given : List ℕ) (scanned scanned' reads : ℕ) (tally : Tally) (source source' : Told)
    → (at : AtLine (state.Body p) line kept scanned reads source taken given) → tally.taken ≡ risen (length added) reads
    → PartAnswer (Err e) (length at.reached.0.head) at.reached.0.framed p line' (at.reached.0.after ++ added) (given ++ kept') source' tally
    → p ≢ part.Whole → HasNoFeed kept → length kept ≤ 8388608 → kept' ≡ kept → AnswersLine (Err e) (state.Body p) line' kept' scanned' tally source' (taken ++ added) given
part_stopped fault.Idle p line added line' kept kept' taken given scanned scanned' reads tally source source' at more got other none short same =
    (part_stays p line added line' kept kept' taken given scanned scanned' reads tally.taken source source' at more got.0 other none same, (subst HasNoFeed (sym same) none, subst (λ (x : List ℕ). length x ≤ 8388608) (sym same) short, other), got.1)
part_stopped fault.ReadFault p line added line' kept kept' taken given scanned scanned' reads tally source source' at more got other none short same =
    (part_stays p line added line' kept kept' taken given scanned scanned' reads tally.taken source source' at more got other none same, (subst HasNoFeed (sym same) none, subst (λ (x : List ℕ). length x ≤ 8388608) (sym same) short, other))
part_stopped (fault.Ended n) p line added line' kept kept' taken given scanned scanned' reads tally source source' at more got other none short same =
    (part_stays p line added line' kept kept' taken given scanned scanned' reads tally.taken source source' at more got.0 other none same, (subst HasNoFeed (sym same) none, subst (λ (x : List ℕ). length x ≤ 8388608) (sym same) short, inr (got.1, got.2)), got.3)
part_stopped (fault.Body place) p line added line' kept kept' taken given scanned scanned' reads tally source source' at more got other none short same =
    let b = at.reached.0 in
    inr (record {
      h = b.h;
      head = b.head;
      whole = b.whole;
      framed = b.framed;
      says = b.says;
      after = b.after ++ added;
      bytes_are = ap (λ (x : List ℕ). x ++ added) b.bytes_are ∙ append_assoc b.head b.after added;
      body = got;
    })
part_stopped fault.Memory p line added line' kept kept' taken given scanned scanned' reads tally source source' at more got other none short same = tt
part_stopped fault.Head p line added line' kept kept' taken given scanned scanned' reads tally source source' at more got other none short same = absurd got
part_stopped (fault.Status n) p line added line' kept kept' taken given scanned scanned' reads tally source source' at more got other none short same = absurd got
part_stopped fault.Route p line added line' kept kept' taken given scanned scanned' reads tally source source' at more got other none short same = absurd got
part_stopped (fault.TooLong n) p line added line' kept kept' taken given scanned scanned' reads tally source source' at more got other none short same = absurd got
part_stopped fault.WriteFault p line added line' kept kept' taken given scanned scanned' reads tally source source' at more got other none short same = absurd got

-- why the taking of a part stopped
pub part_stops : (e : HttpFault) (p : Part) (line added line' kept kept' taken given : List ℕ) (scanned scanned' reads : ℕ) (tally : Tally) (source source' : Told)
    → AtLine (state.Body p) line kept scanned reads source taken given → tally.taken ≡ risen (length added) reads
    → ((before : List ℕ) → TakesPart (Err e) p line (before ++ kept) added line' (before ++ kept') source' tally)
    → p ≢ part.Whole → HasNoFeed kept → length kept ≤ 8388608 → kept' ≡ kept → AnswersLine (Err e) (state.Body p) line' kept' scanned' tally source' (taken ++ added) given
part_stops e p line added line' kept kept' taken given scanned scanned' reads tally source source' at more takes other none short same =
    part_stopped e p line added line' kept kept' taken given scanned scanned' reads tally source source' at more
    (part_answer (Err e) p line added line' kept kept' taken given scanned reads tally source source' at more takes) other none short same

at_scanned : (p : Part) (line kept taken given : List ℕ) (scanned scanned' reads : ℕ) (source : Told) → AtLine (state.Body p) line kept scanned reads source taken given → HasNoFeed kept
    → AtLine (state.Body p) line kept scanned' reads source taken given
at_scanned p line kept taken given scanned scanned' reads source at none = record { counts = at.counts; reached = (at.reached.0, All-take (λ b. b ≢ 10) scanned' kept none) }

-- the message ended, and no whole line is left
pub message_over : (n : ℕ) (p : Part) (line kept taken given : List ℕ) (scanned scanned' : ℕ) (tally : Tally) (source : Told) → AtLine (state.Body p) line kept scanned tally.taken source taken given → HasNoFeed kept → length kept ≤ 8388608 → p ≡ part.Whole → n ≡ tally.taken
    → AnswersLine (Err (fault.Ended n)) (state.Body p) line kept scanned' tally source taken given
message_over n p line kept taken given scanned scanned' tally source at none short whole is = (at_scanned p line kept taken given scanned scanned' tally.taken source at none, (none, short, inl whole), is)

-- ---- lines

-- a line feed after bytes that have none
feed_at : (kept : List ℕ) (end : ℕ) → end < length kept → get_or kept end 0 ≡ 10 → kept ≡ take end kept ++ (10 ∷ drop (end + 1) kept)
feed_at kept end lt is =
    sym (take-append-drop (end + 1) kept) ∙ ap (λ (x : List ℕ). x ++ drop (end + 1) kept) (take_more kept end 0 lt ∙ ap (λ (x : ℕ). take end kept ++ (x ∷ [])) is) ∙ append_assoc (take end kept) (10 ∷ []) (drop (end + 1) kept)

line_given : (given text rest kept : List ℕ) → kept ≡ text ++ (10 ∷ rest) → given ++ kept ≡ (given ++ (text ++ 10 ∷ [])) ++ rest
line_given given text rest kept is = ap (λ (x : List ℕ). given ++ x) (is ∙ sym (append_assoc text (10 ∷ []) rest)) ∙ sym (append_assoc given (text ++ 10 ∷ []) rest)

line_whole : (text : List ℕ) (p : Part) (line kept kept' taken given : List ℕ) (end scanned scanned' : ℕ) (tally : Tally) (source : Told) → AtLine (state.Body p) line kept scanned tally.taken source taken given
    → end < length kept → get_or kept end 0 ≡ 10 → HasNoFeed (take end kept) → CutsLine (Ok text) kept kept' scanned' end → AnswersLine (Ok text) (state.Body p) line kept' scanned' tally source taken given
line_whole text p line kept kept' taken given end scanned scanned' tally source at lt feed none cut =
    let is : kept ≡ text ++ (10 ∷ kept') = feed_at kept end lt feed ∙ ap (λ (x : List ℕ). x ++ (10 ∷ drop (end + 1) kept)) (sym cut.0) ∙ ap (λ (x : List ℕ). text ++ (10 ∷ x)) (sym cut.1) in
    let size = ap length is ∙ length-append text (10 ∷ kept') in
    let rest : length kept' ≡ length kept - (end + 1) = ap length cut.1 ∙ length-drop (end + 1) kept in (
      subst HasNoFeed (sym cut.0) none,
      omega (arith, size, rest, lt, cut.3),
      record {
        counts = at.counts;
        reached = (
          subst (λ (x : List ℕ). InBody p line x source taken) (line_given given text kept' kept is) at.reached.0,
          subst (λ (n : ℕ). HasNoFeed (take n kept')) (sym cut.2) no_feed-nil,
        );
      },
    )

line_long : (n : ℕ) (p : Part) (line kept kept' taken given : List ℕ) (end scanned scanned' : ℕ) (tally : Tally) (source : Told) → AtLine (state.Body p) line kept scanned tally.taken source taken given
    → end < length kept → HasNoFeed (take end kept) → CutsLine (Err (fault.TooLong n)) kept kept' scanned' end → AnswersLine (Err (fault.TooLong n)) (state.Body p) line kept' scanned' tally source taken given
line_long n p line kept kept' taken given end scanned scanned' tally source at lt none cut = (
  cut.0,
  record {
    part = p;
    line = line;
    text = take end kept;
    rest = drop end kept;
    inside = subst (λ (x : List ℕ). InBody p line (given ++ x) source taken) (sym (take-append-drop end kept)) at.reached.0;
    no_feed = none;
    long = omega (arith, cut.2, length-take-le end kept (omega (arith, lt)));
  },
)

-- what the cutting of a line gave
pub line_cut : (r : Result (List ℕ) HttpFault) (p : Part) (line kept kept' taken given : List ℕ) (end scanned scanned' : ℕ) (tally : Tally) (source : Told) → AtLine (state.Body p) line kept scanned tally.taken source taken given
    → end < length kept → get_or kept end 0 ≡ 10 → HasNoFeed (take end kept) → CutsLine r kept kept' scanned' end → AnswersLine r (state.Body p) line kept' scanned' tally source taken given
line_cut (Ok text) p line kept kept' taken given end scanned scanned' tally source at lt feed none cut = line_whole text p line kept kept' taken given end scanned scanned' tally source at lt feed none cut
line_cut (Err (fault.TooLong n)) p line kept kept' taken given end scanned scanned' tally source at lt feed none cut = line_long n p line kept kept' taken given end scanned scanned' tally source at lt none cut
line_cut (Err fault.Memory) p line kept kept' taken given end scanned scanned' tally source at lt feed none cut = tt
line_cut (Err fault.Head) p line kept kept' taken given end scanned scanned' tally source at lt feed none cut = absurd cut
line_cut (Err (fault.Status n)) p line kept kept' taken given end scanned scanned' tally source at lt feed none cut = absurd cut
line_cut (Err fault.Route) p line kept kept' taken given end scanned scanned' tally source at lt feed none cut = absurd cut
line_cut (Err (fault.Body n)) p line kept kept' taken given end scanned scanned' tally source at lt feed none cut = absurd cut
line_cut (Err (fault.Ended n)) p line kept kept' taken given end scanned scanned' tally source at lt feed none cut = absurd cut
line_cut (Err fault.Idle) p line kept kept' taken given end scanned scanned' tally source at lt feed none cut = absurd cut
line_cut (Err fault.ReadFault) p line kept kept' taken given end scanned scanned' tally source at lt feed none cut = absurd cut
line_cut (Err fault.WriteFault) p line kept kept' taken given end scanned scanned' tally source at lt feed none cut = absurd cut

-- a line that is too long, of which no feed came yet
pub kept_long : (p : Part) (line kept taken given : List ℕ) (scanned : ℕ) (tally : Tally) (source : Told) → AtLine (state.Body p) line kept scanned tally.taken source taken given → HasNoFeed kept → 8388608 < length kept
    → AnswersLine (Err (fault.TooLong 8388608)) (state.Body p) line kept scanned tally source taken given
kept_long p line kept taken given scanned tally source at none long = (
  refl,
  record {
    part = p;
    line = line;
    text = kept;
    rest = [];
    inside = subst (λ (x : List ℕ). InBody p line (given ++ x) source taken) (sym (append-nil kept)) at.reached.0;
    no_feed = none;
    long = long;
  },
)

-- no line feed was found
pub none_found : (r : Option ℕ) (bytes : List ℕ) (from : ℕ) → ((x : ℕ) → r ≡ Some x → ⊥) → FoundFeed r bytes from → HasNoFeed (take from bytes) → HasNoFeed bytes
none_found None bytes from none found = found
none_found (Some at) bytes from none found = absurd (none at refl)

-- the answer that the cutting of a line is
pub cut_answers : (r : Result (List ℕ) HttpFault) (p : Part) (st st' : State) (line line' kept kept' taken given : List ℕ) (end scanned scanned' : ℕ) (tally tally' : Tally) (source source' : Told) → st ≡ state.Body p
    → AtLine st line kept scanned tally.taken source taken given → FoundFeed (Some end) kept scanned → CutsLine r kept kept' scanned' end → st' ≡ st → line' ≡ line → tally' ≡ tally → source' ≡ source
    → AnswersLine r st' line' kept' scanned' tally' source' taken given
cut_answers r p st st' line line' kept kept' taken given end scanned scanned' tally tally' source source' body was found cut same_state same_line same_tally same_source =
    let at = subst (λ (x : State). AtLine x line kept scanned tally.taken source taken given) body was in
    let base = line_cut r p line kept kept' taken given end scanned scanned' tally source at found.0 found.1 (found.2 at.reached.1) cut in
    subst (λ (x : State). AnswersLine r x line' kept' scanned' tally' source' taken given) (sym (same_state ∙ body))
    (subst (λ (x : List ℕ). AnswersLine r (state.Body p) x kept' scanned' tally' source' taken given) (sym same_line)
    (subst (λ (x : Tally). AnswersLine r (state.Body p) line kept' scanned' x source' taken given) (sym same_tally) (subst (λ (x : Told). AnswersLine r (state.Body p) line kept' scanned' tally x taken given) (sym same_source) base)))
