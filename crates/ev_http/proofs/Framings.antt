-- How fields frame a body.
use Rattle.std.proofs.Common.{◌≡◌, ℕ, ◌+◌, ◌*◌, ◌^◌, ◌<◌, ◌≤◌, List, [], ◌∷◌, length, Result, Ok, Err, refl, ap, arith, suc}
use Rattle.std.proofs.Common.{true, Some}
use Rattle.std.specs.List.{list_all}
use Rattle.std.specs.Char.{digit_value, is_ascii_digit}
use Rattle.std.proofs.lemmas.Bool.{lt-ltb}
use Rattle.std.specs.Str.Parse.{digits_value_after}
use Rattle.ev_http.specs.declared.framing.Framing.{Framing}
use Rattle.ev_http.specs.declared.framing.Framing.TheVariants as framing
use Rattle.std.specs.Prelude.{Option, None, ◌⊎◌}
use Rattle.std.proofs.Common.{inl, inr, map, take, length-take-le}
use Rattle.httparse.specs.Grammar.{Field}
use Rattle.httparse.specs.declared.spans.HeaderSpan.{HeaderSpan}
use Rattle.httparse.specs.Spans.{AreFieldsAt, header_bytes, name_and_value}
use Rattle.ev_http.specs.declared.head.Kind.{Kind}
use Rattle.ev_http.specs.declared.head.Kind.TheVariants as kind
use Rattle.ev_http.specs.Framing.{later, count_of, after_field, framing_after, next_or, whole_framing}
use Rattle.ev_http.specs.Taking.{counted}

-- the answer for fields that follow so many others
abbrev pub later_by : ℕ → Result Framing ℕ → Result Framing ℕ
later_by n (Ok f) = Ok f
later_by n (Err number) = Err (n + number)

-- a count that stands at its end stays there
pub counted-digits : (n m : ℕ) (ds : List ℕ) → counted n ≡ counted m → counted (digits_value_after 10 n ds) ≡ counted (digits_value_after 10 m ds)
counted-digits n m [] e = e
counted-digits n m (d ∷ ds) e = counted-digits (n * 10 + digit_value d) (m * 10 + digit_value d) ds (omega arith)

pub some_count : (value : List ℕ) (n : ℕ) → 0 < length value → list_all is_ascii_digit value ≡ true → counted (digits_value_after 10 0 value) ≡ counted n → n < 2 ^ 64 → Some n ≡ count_of value
unfolding count_of
some_count value n some all same within =
    let is : counted (digits_value_after 10 0 value) ≡ n = omega (arith, same) in
    rw (lt-ltb 0 (length value) some, all, is) refl

later_fault : (r : Result Framing ℕ) (number : ℕ) → later r ≡ Err number → (m : ℕ) × (r ≡ Err m) × (number ≡ suc m)
later_fault (Ok f) number e = let apart : ◌≡◌ {A = Result Framing ℕ} (Ok f) (Err number) = e in absurd cc
later_fault (Err m) number e = let same : ◌≡◌ {A = Result Framing ℕ} (Err (suc m)) (Err number) = e in (m, refl, cc)

first_fault : (o : Option Framing) (go : Framing → Result Framing ℕ) (number : ℕ) → next_or o go ≡ Err number → (number ≡ 0) ⊎ ((f : Framing) × (m : ℕ) × (go f ≡ Err m) × (number ≡ suc m))
first_fault None go number e = let same : ◌≡◌ {A = Result Framing ℕ} (Err 0) (Err number) = e in inl cc
first_fault (Some f) go number e = let is = later_fault (go f) number e in inr (f, is.0, is.1, is.2)

-- a field that is at fault is one of the fields
pub fault_within : (k : Kind) (f : Framing) (fields : List (List ℕ × List ℕ)) (number : ℕ) → framing_after k f fields ≡ Err number → number < length fields
fault_within k f [] number e = let apart : ◌≡◌ {A = Result Framing ℕ} (Ok f) (Err number) = e in absurd cc
fault_within k f (x ∷ xs) number e =
    elim (first_fault (after_field k f x) (λ g. framing_after k g xs) number e) [
      | inl zero_is ↦ omega (arith, zero_is)
      | inr later_is ↦ let le = fault_within k later_is.0 xs later_is.1 later_is.2 in omega (arith, le, later_is.3)
    ]

map_length : {A B : Type 0} (f : A → B) (xs : List A) → length (map f xs) ≡ length xs
map_length f [] = refl
map_length f (x ∷ xs) = ap suc (map_length f xs)

-- as many spans as fields
pub same_count : (head : List ℕ) (headers : List HeaderSpan) (count : ℕ) (fields : List Field) → AreFieldsAt head headers count fields → count ≤ length headers → length fields ≡ count
same_count head headers count fields at le =
    let same = ap length at in
    omega (arith, same, map_length (header_bytes head) (take count headers), map_length name_and_value fields, length-take-le count headers le)

pub span_fault : (k : Kind) (head : List ℕ) (headers : List HeaderSpan) (number : ℕ) → framing_after k framing.ToEnd (map (header_bytes head) headers) ≡ Err number → number ≤ length headers
span_fault k head headers number e =
    let lt = fault_within k framing.ToEnd (map (header_bytes head) headers) number e in
    omega (arith, lt, map_length (header_bytes head) headers)

pub whole_fault : (head : List ℕ) (headers : List HeaderSpan) (number : ℕ) → whole_framing kind.Request (length headers) (framing_after kind.Request framing.ToEnd (map (header_bytes head) headers)) ≡ Err number → number ≤ length headers
whole_fault head headers number e = by_read (framing_after kind.Request framing.ToEnd (map (header_bytes head) headers)) number (length headers) e (span_fault kind.Request head headers)
  where
    by_read : (r : Result Framing ℕ) (number count : ℕ) → whole_framing kind.Request count r ≡ Err number → ((m : ℕ) → r ≡ Err m → m ≤ count) → number ≤ count
    by_read (Ok framing.ToEnd) number count e within = let same : ◌≡◌ {A = Result Framing ℕ} (Err count) (Err number) = e in let n : count ≡ number = cc in omega (arith, n)
    by_read (Ok framing.Chunked) number count e within = let same : ◌≡◌ {A = Result Framing ℕ} (Err count) (Err number) = e in let n : count ≡ number = cc in omega (arith, n)
    by_read (Ok (framing.Counted n)) number count e within = let apart : ◌≡◌ {A = Result Framing ℕ} (Ok (framing.Counted n)) (Err number) = e in absurd cc
    by_read (Err m) number count e within = within number e
