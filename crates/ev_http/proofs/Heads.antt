-- A head ends in a line feed, so it comes whole only with one.
use Rattle.std.proofs.Common.{suc, ◌≡◌, ◌≢◌, ℕ, ◌+◌, ◌-◌, ◌≤◌, List, [], ◌∷◌, ◌++◌, length, take, refl, sym, ap, subst, ◌∙◌, append_assoc, append-nil, length-append, inl, inr, arith}
use Rattle.std.proofs.lemmas.Bool.{cases_lt}
use Rattle.std.proofs.Math.Seq.{take-append-add, take-append_seam}
use Rattle.std.specs.List.{flat_map}
use Rattle.httparse.specs.Grammar.{LineEnd, crlf, lf, Field, print_end, print_blank, print_version, print_reason, print_field, print_section, ResponseHead, print_response, RequestHead, print_request}
use Rattle.ev_http.specs.declared.head.Kind.{Kind}
use Rattle.ev_http.specs.declared.head.Kind.TheVariants as kind
use Rattle.ev_http.specs.declared.head.Judged.{Judged}
use Rattle.ev_http.specs.declared.head.Judged.TheVariants as judged
use Rattle.std.specs.Prelude.{Err}
use Rattle.ev_http.specs.declared.fault.HttpFault.{HttpFault}
use Rattle.ev_http.specs.declared.fault.HttpFault.TheVariants as fault
use Rattle.ev_http.specs.declared.taking.Tally.{Tally}
use Rattle.zx_outside.specs.Reading.{HasNoFeed}
use Rattle.ev_http.specs.Taking.{IsLine, Grows, TakesLine, Told}
use Rattle.ev_http.proofs.Takings.{grown_twice}
use Rattle.ev_http.specs.Heads.{IsHead, HasNoHead, NeverFits, FitsHead, IsOpenHead, BeginsWithHead, MayBecome, TakesHead}

-- what lies in front of the longer part
pub front_of : (a x p r : List ℕ) → a ++ x ≡ p ++ r → length p ≤ length a → (q : List ℕ) × (a ≡ p ++ q)
front_of a x p r e le =
    let k : length p + (length a - length p) ≡ length a = omega arith in
    let one : take (length a) (a ++ x) ≡ take (length p + (length a - length p)) (p ++ r) = ap (λ n. take n (a ++ x)) (sym k) ∙ ap (take (length p + (length a - length p))) e in
    (take (length a - length p) r, sym (take-append_seam a x) ∙ one ∙ take-append-add p r (length a - length p))

pub end_of_line : (e : LineEnd) → (front : List ℕ) × (print_end e ≡ front ++ 10 ∷ [])
end_of_line crlf = (13 ∷ [], refl)
end_of_line lf = ([], refl)

-- a section follows a line, and ends in an empty one
section_after_line : (fields : List Field) (last : LineEnd) → (front : List ℕ) × (10 ∷ print_section fields last ≡ front ++ 10 ∷ print_end last)
section_after_line [] last = ([], refl)
section_after_line (f ∷ fields) last =
    let later = section_after_line fields last in
    let e = end_of_line f.end in
    let begin : List ℕ = f.name ++ 58 ∷ f.raw ++ e.0 in
    let line : print_field f ≡ begin ++ 10 ∷ [] = ap (λ (x : List ℕ). f.name ++ 58 ∷ f.raw ++ x) e.1 ∙ sym (append_assoc (f.name ++ 58 ∷ f.raw) e.0 (10 ∷ [])) in (
      10 ∷ (begin ++ later.0),
      ap (λ (x : List ℕ). 10 ∷ x) (append_assoc (print_field f) (flat_map print_field fields) (print_end last)
          ∙ ap (λ (x : List ℕ). x ++ print_section fields last) line ∙ append_assoc begin (10 ∷ []) (print_section fields last)
          ∙ ap (λ (x : List ℕ). begin ++ x) later.1 ∙ sym (append_assoc begin later.0 (10 ∷ print_end last))),
    )

after_line : (start : List ℕ) (e : LineEnd) (fields : List Field) (last : LineEnd) → (front : List ℕ) × ((start ++ print_end e) ++ print_section fields last ≡ front ++ 10 ∷ print_end last)
after_line start e fields last =
    let end = end_of_line e in
    let later = section_after_line fields last in (
      (start ++ end.0) ++ later.0,
      ap (λ (x : List ℕ). (start ++ x) ++ print_section fields last) end.1 ∙ ap (λ (x : List ℕ). x ++ print_section fields last) (sym (append_assoc start end.0 (10 ∷ [])))
          ∙ append_assoc (start ++ end.0) (10 ∷ []) (print_section fields last) ∙ ap (λ (x : List ℕ). (start ++ end.0) ++ x) later.1 ∙ sym (append_assoc (start ++ end.0) later.0 (10 ∷ print_end last)),
    )

abbrev ResponseStart : ResponseHead → List ℕ
ResponseStart h = print_blank h.blank ++ print_version h.minor ++ 32 ∷ h.digits ++ print_reason h.reason ++ print_end h.line_end

abbrev RequestStart : RequestHead → List ℕ
RequestStart h = print_blank h.blank ++ h.method ++ 32 ∷ h.target ++ 32 ∷ print_version h.minor ++ print_end h.line_end

section_ends : (start fields end front : List ℕ) → end ≡ front ++ 10 ∷ [] → start ++ (fields ++ end) ≡ (start ++ (fields ++ front)) ++ 10 ∷ []
section_ends start fields end front e =
    ap (λ (x : List ℕ). start ++ (fields ++ x)) e ∙ ap (λ (x : List ℕ). start ++ x) (sym (append_assoc fields front (10 ∷ []))) ∙ sym (append_assoc start (fields ++ front) (10 ∷ []))

pub head_ends : (k : Kind) (fields : List Field) (head : List ℕ) → IsHead k fields head → (front : List ℕ) × (head ≡ front ++ 10 ∷ [])
unfolding print_response print_request
head_ends kind.Response fields head h =
    let e = end_of_line h.0.last in
    (ResponseStart h.0 ++ (flat_map print_field h.0.fields ++ e.0), h.3 ∙ section_ends (ResponseStart h.0) (flat_map print_field h.0.fields) (print_end h.0.last) e.0 e.1)
head_ends kind.Request fields head h =
    let e = end_of_line h.0.last in
    (RequestStart h.0 ++ (flat_map print_field h.0.fields ++ e.0), h.3 ∙ section_ends (RequestStart h.0) (flat_map print_field h.0.fields) (print_end h.0.last) e.0 e.1)

-- a head ends in an empty line, which follows another line
pub head_ends_empty : (k : Kind) (fields : List Field) (head : List ℕ) → IsHead k fields head → (front : List ℕ) × (end : LineEnd) × (head ≡ front ++ 10 ∷ print_end end)
unfolding print_response print_request
head_ends_empty kind.Response fields head h =
    let e = after_line (print_blank h.0.blank ++ print_version h.0.minor ++ 32 ∷ h.0.digits ++ print_reason h.0.reason) h.0.line_end h.0.fields h.0.last in
    (e.0, h.0.last, h.3 ∙ e.1)
head_ends_empty kind.Request fields head h =
    let e = after_line (print_blank h.0.blank ++ h.0.method ++ 32 ∷ h.0.target ++ 32 ∷ print_version h.0.minor) h.0.line_end h.0.fields h.0.last in
    (e.0, h.0.last, h.3 ∙ e.1)

pub last_of : (a b : List ℕ) (x y : ℕ) → a ++ x ∷ [] ≡ b ++ y ∷ [] → x ≡ y
last_of [] [] x y e = cc
last_of [] (c ∷ b) x y e = absurd (omega (arith, ap length e, length-append b (y ∷ [])))
last_of (c ∷ a) [] x y e = absurd (omega (arith, ap length e, length-append a (x ∷ [])))
last_of (c ∷ a) (d ∷ b) x y e = last_of a b x y cc

pub no_head-nil : (k : Kind) → HasNoHead k []
no_head-nil k fields head rest is e =
    let end = head_ends k fields head is in
    omega (arith, ap length e, length-append head rest, ap length end.1, length-append end.0 (10 ∷ []))

-- a byte more, which is in the rest of a head in front or its last
push_cases : (k : Kind) (bytes : List ℕ) (b : ℕ) → HasNoHead k bytes → (fields : List Field) (head rest : List ℕ) → IsHead k fields head → bytes ++ b ∷ [] ≡ head ++ rest → (rest ≡ []) × (b ≡ 10)
push_cases k bytes b none fields head [] is e =
    let end = head_ends k fields head is in
    (refl, last_of bytes end.0 b 10 (e ∙ append-nil head ∙ end.1))
push_cases k bytes b none fields head (c ∷ rest) is e =
    let short : length head ≤ length bytes = omega (arith, ap length e, length-append head (c ∷ rest), length-append bytes (b ∷ [])) in
    let q = front_of bytes (b ∷ []) head (c ∷ rest) e short in
    absurd (none fields head q.0 is q.1)

no_head-push : (k : Kind) (bytes : List ℕ) (b : ℕ) → HasNoHead k bytes → b ≢ 10 → HasNoHead k (bytes ++ b ∷ [])
no_head-push k bytes b none other fields head rest is e = other (push_cases k bytes b none fields head rest is e).1

no_feed-head : (b : ℕ) (bytes : List ℕ) → HasNoFeed (b ∷ bytes) → b ≢ 10
no_feed-head b bytes none = none 0 0 (omega arith)

no_feed-tail : (b : ℕ) (bytes : List ℕ) → HasNoFeed (b ∷ bytes) → HasNoFeed bytes
no_feed-tail b bytes none i d lt = none (suc i) d (omega (arith, lt))

pub no_head-append : (k : Kind) (bytes added : List ℕ) → HasNoHead k bytes → HasNoFeed added → HasNoHead k (bytes ++ added)
no_head-append k bytes [] none no_feed = subst (λ (x : List ℕ). HasNoHead k x) (sym (append-nil bytes)) none
no_head-append k bytes (b ∷ added) none no_feed =
    subst (λ (x : List ℕ). HasNoHead k x) (append_assoc bytes (b ∷ []) added)
    (no_head-append k (bytes ++ b ∷ []) added (no_head-push k bytes b none (no_feed-head b added no_feed)) (no_feed-tail b added no_feed))

-- a head that came whole with a line feed ends there
pub head_is_all : (k : Kind) (bytes text : List ℕ) → HasNoHead k bytes → HasNoFeed text → (fields : List Field) (head rest : List ℕ) → IsHead k fields head
    → bytes ++ (text ++ 10 ∷ []) ≡ head ++ rest → bytes ++ (text ++ 10 ∷ []) ≡ head
head_is_all k bytes text none no_feed fields head rest is e =
    let at_end = push_cases k (bytes ++ text) 10 (no_head-append k bytes text none no_feed) fields head rest is (append_assoc bytes text (10 ∷ []) ∙ e) in
    e ∙ ap (λ (x : List ℕ). head ++ x) at_end.0 ∙ append-nil head

-- no head came whole with a line that is not empty
pub no_head-line : (k : Kind) (old added new : List ℕ) → HasNoHead k old → IsLine added → new ≡ old ++ added → ((front : List ℕ) (end : LineEnd) → new ≡ front ++ 10 ∷ print_end end → ⊥) → HasNoHead k new
no_head-line k old added new none line grown other fields head rest is e =
    let same : new ≡ old ++ (line.0 ++ 10 ∷ []) = grown ∙ ap (λ (x : List ℕ). old ++ x) line.2 in
    let all : new ≡ head = same ∙ head_is_all k old line.0 none line.1 fields head rest is (sym same ∙ e) in
    let end = head_ends_empty k fields head is in
    other end.0 end.1 (all ∙ end.2)

pub never_fits-full : (k : Kind) (bytes : List ℕ) → HasNoHead k bytes → 16384 ≤ length bytes → NeverFits k bytes
never_fits-full k bytes none full fields head more rest is e =
    elim (cases_lt 16384 (length head)) [
      | inl long ↦ inr long
      | inr le ↦ absurd (let q = front_of bytes more head rest e (omega arith) in none fields head q.0 is q.1)
    ]

pub IsOpenHead-grows : (k : Kind) (old added new : List ℕ) → IsOpenHead k old → Grows old added new 16384 → IsOpenHead k new
IsOpenHead-grows k old added new begun grows = record {
  none = subst (λ (x : List ℕ). HasNoHead k x) (sym grows.grown) (no_head-append k old added begun.none grows.no_feed);
  short = omega (arith, begun.short, grows.short);
}

-- the line with which a head came whole
pub head_whole : (k : Kind) (old added new : List ℕ) → IsOpenHead k old → IsLine added → new ≡ old ++ added → length new ≤ 16384 → BeginsWithHead k new → (fields : List Field) × FitsHead k fields new
head_whole k old added new begun line grown short begins =
    let same : new ≡ old ++ (line.0 ++ 10 ∷ []) = grown ∙ ap (λ (x : List ℕ). old ++ x) line.2 in
    let all : new ≡ begins.1 = same ∙ head_is_all k old line.0 begun.none line.1 begins.0 begins.1 begins.2 begins.3 (sym same ∙ begins.5) in
    (begins.0, record { is_head = subst (λ (x : List ℕ). IsHead k begins.0 x) (sym all) begins.3; few = begins.4; short = short })

-- why the taking of a head stopped in a line
pub head_stops : (e : HttpFault) (k : Kind) (old first mid second new : List ℕ) (source : Told) (tally : Tally)
    → mid ≡ old ++ first → IsOpenHead k mid → TakesLine (Err e) mid second new 16384 source tally → TakesHead (Err e) k old (first ++ second) new source tally
head_stops fault.Idle k old first mid second new source tally early begun line = (grown_twice old first second mid new early line.0.grown, IsOpenHead-grows k mid second new begun line.0, line.1)
head_stops fault.ReadFault k old first mid second new source tally early begun line = (grown_twice old first second mid new early line.grown, IsOpenHead-grows k mid second new begun line)
head_stops fault.Memory k old first mid second new source tally early begun line = tt
head_stops fault.Head k old first mid second new source tally early begun line = absurd line
head_stops (fault.Status n) k old first mid second new source tally early begun line = absurd line
head_stops fault.Route k old first mid second new source tally early begun line = absurd line
head_stops (fault.Body p) k old first mid second new source tally early begun line = absurd line
head_stops (fault.TooLong n) k old first mid second new source tally early begun line = absurd line
head_stops (fault.Ended n) k old first mid second new source tally early begun line = absurd line
head_stops fault.WriteFault k old first mid second new source tally early begun line = absurd line

-- what has no head, and is not refused, may become one
pub may_become : (j : Judged) (k : Kind) (bytes : List ℕ) → HasNoHead k bytes → (j ≡ judged.Whole → BeginsWithHead k bytes) → (j ≡ judged.More → MayBecome k bytes) → (j ≡ judged.Never → ⊥) → MayBecome k bytes
may_become judged.Whole k bytes none whole may other = let begins = whole refl in absurd (none begins.0 begins.1 begins.2 begins.3 begins.5)
may_become judged.More k bytes none whole may other = may refl
may_become judged.Never k bytes none whole may other = absurd (other refl)

pub IsOpenHead-nil : (k : Kind) → IsOpenHead k []
IsOpenHead-nil k = record { none = no_head-nil k; short = omega arith }
