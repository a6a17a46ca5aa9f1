-- A message that is there is read, and no fault is named.
use Rattle.std.proofs.Common.{◌≡◌, ℕ, ◌≤◌, List, [], ◌++◌, length, Option, Some, None, Result, Ok, Err, Bool, true, false, refl, sym, ap, subst, ◌∙◌, append_assoc, append-nil, arith, inl, inr}
use Rattle.std.specs.Global.{Vec}
use Rattle.std.specs.Io.KnownBytes.{prepend_known, IsAtEnd}
use Rattle.httparse.specs.Grammar.{ResponseHead, RequestHead, status_code}
use Rattle.httparse.proofs.GrammarLemmas.{response_unique, request_unique}
use Rattle.ev_types.specs.declared.route.Route.{Route}
use Rattle.ev_types.specs.declared.route.Route.TheVariants as route
use Rattle.ev_http.specs.declared.fault.HttpFault.{HttpFault}
use Rattle.ev_http.specs.declared.fault.HttpFault.TheVariants as fault
use Rattle.ev_http.specs.declared.framing.Framing.{Framing}
use Rattle.ev_http.specs.declared.framing.Framing.TheVariants as framing
use Rattle.ev_http.specs.declared.head.Kind.TheVariants as kind
use Rattle.ev_http.specs.declared.taking.Tally.{Tally}
use Rattle.ev_http.specs.Taking.{Told, Took, Ends}
use Rattle.ev_http.specs.Framing.{framing_of}
use Rattle.ev_http.specs.Heads.{NeverFits, IsOpenHead, StopsInHead}
use Rattle.ev_http.specs.Body.{Framed, LastsTo, ReadsBody}
use Rattle.ev_http.specs.Messages.{JudgesResponse, JudgesRequest, IsWholeResponse, IsWholeRequest, RefusesResponse, ResponseAnswer, RequestAnswer, with_route, path_of, is_post, HoldsResponse, HoldsRequest, ReadsRequestBody}
use Rattle.ev_http.proofs.Wholes.{body_reads}

-- what is left of known bytes
pub left_after : (bytes all : List ℕ) (left : Option (List ℕ)) → Some all ≡ prepend_known bytes left → (rest : List ℕ) × (left ≡ Some rest) × (all ≡ bytes ++ rest)
left_after bytes all None e = absurd cc
left_after bytes all (Some rest) e = (rest, refl, cc)

-- ---- responses

pub never_response : (bytes left body rest all : List ℕ) → HoldsResponse body rest all → all ≡ bytes ++ left → NeverFits kind.Response bytes → ⊥
never_response bytes left body rest all holds e never =
    elim (never holds.h.fields holds.head left (holds.after ++ rest) (holds.h, holds.whole.is_head, refl, holds.whole.printed) (sym e ∙ holds.bytes_are)) [
      | inl many ↦ omega (arith, many, holds.whole.few)
      | inr long ↦ omega (arith, long, holds.whole.short)
    ]

pub open_response : (bytes left body rest all : List ℕ) → HoldsResponse body rest all → all ≡ bytes ++ left → IsOpenHead kind.Response bytes → left ≡ [] → ⊥
open_response bytes left body rest all holds e begun nil =
    begun.none holds.h.fields holds.head (holds.after ++ rest) (holds.h, holds.whole.is_head, refl, holds.whole.printed)
    (sym (append-nil bytes) ∙ ap (λ (x : List ℕ). bytes ++ x) (sym nil) ∙ sym e ∙ holds.bytes_are)

-- a head in front is the head
pub same_response : (h : ResponseHead) (head tail body rest all : List ℕ) → (holds : HoldsResponse body rest all) → IsWholeResponse h head → all ≡ head ++ tail → (h ≡ holds.h) × (tail ≡ holds.after ++ rest)
same_response h head tail body rest all holds whole e =
    response_unique all h holds.h tail (holds.after ++ rest) (whole.is_head, e ∙ ap (λ (x : List ℕ). x ++ tail) whole.printed)
    (holds.whole.is_head, holds.bytes_are ∙ ap (λ (x : List ℕ). x ++ (holds.after ++ rest)) holds.whole.printed)

judged : (why : HttpFault) (h k : ResponseHead) (f : Framing) (head head' : List ℕ) → h ≡ k → JudgesResponse (Ok f) k head → JudgesResponse (Err why) h head' → ⊥
judged (fault.Status n) h k f head head' same good bad = bad.1 (sym bad.0 ∙ ap status_code same ∙ good.0)
judged (fault.Body place) h k f head head' same good bad = let e : Err bad.1 ≡ Ok f = sym bad.2 ∙ ap (λ (x : ResponseHead). framing_of kind.Response x.fields) same ∙ good.1 in absurd cc
judged fault.Head h k f head head' same good bad = bad
judged fault.Route h k f head head' same good bad = bad
judged (fault.TooLong n) h k f head head' same good bad = bad
judged (fault.Ended n) h k f head head' same good bad = bad
judged fault.Idle h k f head head' same good bad = bad
judged fault.ReadFault h k f head head' same good bad = bad
judged fault.WriteFault h k f head head' same good bad = bad
judged fault.Memory h k f head head' same good bad = bad

pub refused_response : (r : Result (Vec ℕ) HttpFault) (bytes left body rest all : List ℕ) → HoldsResponse body rest all → all ≡ bytes ++ left → RefusesResponse r bytes → ⊥
refused_response r bytes left body rest all holds e bad =
    let same = same_response bad.h bytes left body rest all holds bad.whole e in
    judged bad.why bad.h holds.h holds.framed holds.head bytes same.0 holds.says bad.says

-- the body after a head in front is the body
pub same_framing : (h : ResponseHead) (f : Framing) (head after bytes left body rest all : List ℕ) → (holds : HoldsResponse body rest all) → IsWholeResponse h head → JudgesResponse (Ok f) h head → bytes ≡ head ++ after → all ≡ bytes ++ left
    → Framed f body holds.after × (holds.after ++ rest ≡ after ++ left) × LastsTo f rest
same_framing h f head after bytes left body rest all holds whole says is e =
    let same = same_response h head (after ++ left) body rest all holds whole (e ∙ ap (λ (x : List ℕ). x ++ left) is ∙ append_assoc head after left) in
    let found : Ok holds.framed ≡ Ok f = sym holds.says.1 ∙ ap (λ (x : ResponseHead). framing_of kind.Response x.fields) (sym same.0) ∙ says.1 in
    let one : holds.framed ≡ f = cc in
    (subst (λ (x : Framing). Framed x body holds.after) one holds.carries, sym same.1, subst (λ (x : Framing). LastsTo x rest) one holds.alone)

stopped_response : (r : Result (Vec ℕ) HttpFault) (bytes left body rest all : List ℕ) (source : Told) (tally : Tally) → HoldsResponse body rest all → all ≡ bytes ++ left → (Ends source → left ≡ []) → StopsInHead r kind.Response bytes source tally
    → ReadsBody r body rest (Some left)
stopped_response (Ok v) bytes left body rest all source tally holds e none stops = absurd stops
stopped_response (Err fault.Head) bytes left body rest all source tally holds e none stops = never_response bytes left body rest all holds e stops
stopped_response (Err (fault.Ended n)) bytes left body rest all source tally holds e none stops = open_response bytes left body rest all holds e stops.0 (none stops.1)
stopped_response (Err fault.Idle) bytes left body rest all source tally holds e none stops = tt
stopped_response (Err fault.ReadFault) bytes left body rest all source tally holds e none stops = tt
stopped_response (Err fault.Memory) bytes left body rest all source tally holds e none stops = tt
stopped_response (Err (fault.Status n)) bytes left body rest all source tally holds e none stops = stops
stopped_response (Err fault.Route) bytes left body rest all source tally holds e none stops = stops
stopped_response (Err (fault.Body place)) bytes left body rest all source tally holds e none stops = stops
stopped_response (Err (fault.TooLong n)) bytes left body rest all source tally holds e none stops = stops
stopped_response (Err fault.WriteFault) bytes left body rest all source tally holds e none stops = stops

answered_response : (r : Result (Vec ℕ) HttpFault) (bytes left body rest all : List ℕ) (source : Told) (tally : Tally) → HoldsResponse body rest all → length body ≤ 8388608 → all ≡ bytes ++ left → (Ends source → left ≡ []) → ResponseAnswer r bytes source tally
    → ReadsBody r body rest (Some left)
answered_response r bytes left body rest all source tally holds short e none (inl stops) = stopped_response r bytes left body rest all source tally holds e none stops
answered_response r bytes left body rest all source tally holds short e none (inr (inl bad)) = absurd (refused_response r bytes left body rest all holds e bad)
answered_response r bytes left body rest all source tally holds short e none (inr (inr on)) =
    let same = same_framing on.h on.framed on.head on.after bytes left body rest all holds on.whole on.says on.bytes_are e in
    body_reads r (length on.head) on.framed on.after left body holds.after rest source tally same.0 same.1 same.2 short none on.body

pub at_end : (source : Told) (left : List ℕ) → source.left ≡ Some left → Ends source → left ≡ []
at_end source left is ends = subst (λ (x : Option (List ℕ)). IsAtEnd x) is ends.empty

-- a response that is there is read
pub response_reads : (r : Result (Vec ℕ) HttpFault) (bytes all body rest : List ℕ) (faulty : Bool) (tally tally' : Tally) (source source' : Told) → Took bytes faulty tally tally' source source' → ResponseAnswer r bytes source' tally' → source.left ≡ Some all
    → HoldsResponse body rest all → length body ≤ 8388608 → ReadsBody r body rest source'.left
response_reads r bytes all body rest faulty tally tally' source source' took answer known holds short =
    let got = left_after bytes all source'.left (sym known ∙ took.gives.shrunk) in
    subst (λ (x : Option (List ℕ)). ReadsBody r body rest x) (sym got.1) (answered_response r bytes got.0 body rest all source' tally' holds short got.2 (at_end source' got.0 got.1) answer)

-- ---- requests

never_request : (bytes left body rest all : List ℕ) (goes : Route) → HoldsRequest goes body rest all → all ≡ bytes ++ left → NeverFits kind.Request bytes → ⊥
never_request bytes left body rest all goes holds e never =
    elim (never holds.h.fields holds.head left (body ++ rest) (holds.h, holds.whole.is_head, refl, holds.whole.printed) (sym e ∙ holds.bytes_are)) [
      | inl many ↦ omega (arith, many, holds.whole.few)
      | inr long ↦ omega (arith, long, holds.whole.short)
    ]

open_request : (bytes left body rest all : List ℕ) (goes : Route) → HoldsRequest goes body rest all → all ≡ bytes ++ left → IsOpenHead kind.Request bytes → left ≡ [] → ⊥
open_request bytes left body rest all goes holds e begun nil =
    begun.none holds.h.fields holds.head (body ++ rest) (holds.h, holds.whole.is_head, refl, holds.whole.printed)
    (sym (append-nil bytes) ∙ ap (λ (x : List ℕ). bytes ++ x) (sym nil) ∙ sym e ∙ holds.bytes_are)

same_request : (h : RequestHead) (head tail body rest all : List ℕ) (goes : Route) → (holds : HoldsRequest goes body rest all) → IsWholeRequest h head → all ≡ head ++ tail → (h ≡ holds.h) × (tail ≡ body ++ rest)
same_request h head tail body rest all goes holds whole e =
    request_unique all h holds.h tail (body ++ rest) (whole.is_head, e ∙ ap (λ (x : List ℕ). x ++ tail) whole.printed)
    (holds.whole.is_head, holds.bytes_are ∙ ap (λ (x : List ℕ). x ++ (body ++ rest)) holds.whole.printed)

judged_request : (why : HttpFault) (h k : RequestHead) (goes : Route) (n : ℕ) (head head' : List ℕ) → h ≡ k → JudgesRequest (Ok (goes, n)) k head → JudgesRequest (Err why) h head' → ⊥
judged_request fault.Route h k goes n head head' same good bad =
    elim bad [
      | inl other ↦ absurd (let e : false ≡ true = sym other ∙ ap (λ (x : RequestHead). is_post x.method) same ∙ good.0 in cc)
      | inr nowhere ↦ nowhere goes (ap (λ (x : RequestHead). x.target) same ∙ good.1)
    ]
judged_request (fault.Body place) h k goes n head head' same good bad =
    let e : Err bad.3 ≡ Ok (framing.Counted n) = sym bad.4 ∙ ap (λ (x : RequestHead). framing_of kind.Request x.fields) same ∙ good.2 in absurd cc
judged_request fault.Head h k goes n head head' same good bad = bad
judged_request (fault.Status m) h k goes n head head' same good bad = bad
judged_request (fault.TooLong m) h k goes n head head' same good bad = bad
judged_request (fault.Ended m) h k goes n head head' same good bad = bad
judged_request fault.Idle h k goes n head head' same good bad = bad
judged_request fault.ReadFault h k goes n head head' same good bad = bad
judged_request fault.WriteFault h k goes n head head' same good bad = bad
judged_request fault.Memory h k goes n head head' same good bad = bad

path_unique : (a b : Route) → path_of a ≡ path_of b → a ≡ b
unfolding path_of
path_unique route.Txn route.Txn e = refl
path_unique route.Range route.Range e = refl
path_unique route.Grant route.Grant e = refl
path_unique route.Alive route.Alive e = refl
path_unique route.Watch route.Watch e = refl
path_unique a b e = absurd (omega (arith, ap length e))

stopped_request : (r : Result (Route × Vec ℕ) HttpFault) (bytes left body rest all : List ℕ) (goes : Route) (source : Told) (tally : Tally) → HoldsRequest goes body rest all → all ≡ bytes ++ left → (Ends source → left ≡ []) → StopsInHead r kind.Request bytes source tally
    → ReadsRequestBody r goes body rest (Some left)
stopped_request (Ok v) bytes left body rest all goes source tally holds e none stops = absurd stops
stopped_request (Err fault.Head) bytes left body rest all goes source tally holds e none stops = never_request bytes left body rest all goes holds e stops
stopped_request (Err (fault.Ended n)) bytes left body rest all goes source tally holds e none stops = open_request bytes left body rest all goes holds e stops.0 (none stops.1)
stopped_request (Err fault.Idle) bytes left body rest all goes source tally holds e none stops = tt
stopped_request (Err fault.ReadFault) bytes left body rest all goes source tally holds e none stops = tt
stopped_request (Err fault.Memory) bytes left body rest all goes source tally holds e none stops = tt
stopped_request (Err (fault.Status n)) bytes left body rest all goes source tally holds e none stops = stops
stopped_request (Err fault.Route) bytes left body rest all goes source tally holds e none stops = stops
stopped_request (Err (fault.Body place)) bytes left body rest all goes source tally holds e none stops = stops
stopped_request (Err (fault.TooLong n)) bytes left body rest all goes source tally holds e none stops = stops
stopped_request (Err fault.WriteFault) bytes left body rest all goes source tally holds e none stops = stops

routed : (r : Result (Vec ℕ) HttpFault) (goes goes' : Route) (body rest : List ℕ) (left : Option (List ℕ)) → goes' ≡ goes → ReadsBody r body rest left → ReadsRequestBody (with_route goes' r) goes body rest left
routed (Ok v) goes goes' body rest left same reads = (same, reads.0, reads.1)
routed (Err why) goes goes' body rest left same reads = reads

answered_request : (r : Result (Route × Vec ℕ) HttpFault) (bytes left body rest all : List ℕ) (goes : Route) (source : Told) (tally : Tally) → HoldsRequest goes body rest all → length body ≤ 8388608 → all ≡ bytes ++ left → (Ends source → left ≡ []) → RequestAnswer r bytes source tally
    → ReadsRequestBody r goes body rest (Some left)
answered_request r bytes left body rest all goes source tally holds short e none (inl stops) = stopped_request r bytes left body rest all goes source tally holds e none stops
answered_request r bytes left body rest all goes source tally holds short e none (inr (inl bad)) =
    let same = same_request bad.h bytes left body rest all goes holds bad.whole e in
    absurd (judged_request bad.why bad.h holds.h goes (length body) holds.head bytes same.0 holds.says bad.says)
answered_request r bytes left body rest all goes source tally holds short e none (inr (inr on)) =
    let same = same_request on.h on.head (on.after ++ left) body rest all goes holds on.whole (e ∙ ap (λ (x : List ℕ). x ++ left) on.bytes_are ∙ append_assoc on.head on.after left) in
    let path : path_of on.goes ≡ path_of goes = sym on.says.1 ∙ ap (λ (x : RequestHead). x.target) same.0 ∙ holds.says.1 in
    let found : Ok (framing.Counted on.count) ≡ Ok (framing.Counted (length body)) = sym on.says.2 ∙ ap (λ (x : RequestHead). framing_of kind.Request x.fields) same.0 ∙ holds.says.2 in
    let size : on.count ≡ length body = cc in
    let reads = body_reads on.read (length on.head) (framing.Counted on.count) on.after left body body rest source tally (refl, sym size) (sym same.1) tt short none on.body in
    subst (λ (x : Result (Route × Vec ℕ) HttpFault). ReadsRequestBody x goes body rest (Some left)) (sym on.answered) (routed on.read goes on.goes body rest (Some left) (path_unique on.goes goes path) reads)

-- a request that is there is read
pub request_reads : (r : Result (Route × Vec ℕ) HttpFault) (bytes all body rest : List ℕ) (goes : Route) (faulty : Bool) (tally tally' : Tally) (source source' : Told) → Took bytes faulty tally tally' source source' → RequestAnswer r bytes source' tally' → source.left ≡ Some all
    → HoldsRequest goes body rest all → length body ≤ 8388608 → ReadsRequestBody r goes body rest source'.left
request_reads r bytes all body rest goes faulty tally tally' source source' took answer known holds short =
    let got = left_after bytes all source'.left (sym known ∙ took.gives.shrunk) in
    subst (λ (x : Option (List ℕ)). ReadsRequestBody r goes body rest x) (sym got.1) (answered_request r bytes got.0 body rest all goes source' tally' holds short got.2 (at_end source' got.0 got.1) answer)
