-- Digits alone, against std's reading of numbers.
use Rattle.std.proofs.Common.{◌≡◌, ◌≢◌, ℕ, ◌^◌, ◌<◌, Bool, true, false, cond, List, [], ◌∷◌, length, Option, Some, None, Result, Ok, Err, inl, inr, refl, sym, ap, ◌∙◌, arith}
use Rattle.std.specs.Prelude.{◌&&◌, nat_lt}
use Rattle.std.specs.List.{list_all}
use Rattle.std.specs.Char.{is_ascii_digit}
use Rattle.std.specs.Str.{all_ascii_digits}
use Rattle.std.specs.Str.Parse.{digits_value, ParsesUnsigned}
use Rattle.std.proofs.lemmas.Str.Parse.{IsNumeralModel, numerals_by_value, tells_all_ascii_digits, parse_digits}
use Rattle.std.proofs.lemmas.Bool.{le-ltb, lt-ltb, cases_lt}
use Rattle.ev_fields.specs.Kinds.{fits64, digits64}

pub all_digits : (s : List ℕ) → all_ascii_digits s ≡ list_all is_ascii_digit s
all_digits [] = refl
all_digits (c ∷ cs) = ap (λ b. is_ascii_digit c && b) (all_digits cs)

pub own : IsNumeralModel (λ ds. all_ascii_digits ds ≡ true) (digits_value 10)
own = numerals_by_value _ tells_all_ascii_digits

pub digits64-nil : (s : List ℕ) → length s ≡ 0 → digits64 s ≡ None
unfolding digits64
digits64-nil s e = rw e refl

refused : (a b : Bool) (o : Option ℕ) → b ≡ false → fits64 (cond (a && b) o None) ≡ None
refused true b o e = rw e refl
refused false b o e = refl

pub digits64-other : (s : List ℕ) → list_all is_ascii_digit s ≡ false → digits64 s ≡ None
unfolding digits64
digits64-other s e = refused (nat_lt 0 (length s)) (list_all is_ascii_digit s) (Some (digits_value 10 s)) e

taken : (a b : Bool) (v : ℕ) → a ≡ true → b ≡ true → fits64 (cond (a && b) (Some v) None) ≡ cond (nat_lt v (2 ^ 64)) (Some v) None
taken a b v ea eb = rw (ea, eb) refl

pub digits64-some : (s : List ℕ) → 0 < length s → list_all is_ascii_digit s ≡ true → digits64 s ≡ cond (nat_lt (digits_value 10 s) (2 ^ 64)) (Some (digits_value 10 s)) None
unfolding digits64
digits64-some s lt e = taken (nat_lt 0 (length s)) (list_all is_ascii_digit s) (digits_value 10 s) (lt-ltb _ _ lt) e

pub digits64-ok : {E : Type 0} (s : List ℕ) (r : Result ℕ E) (n : ℕ) → length s ≢ 0 → list_all is_ascii_digit s ≡ true → ParsesUnsigned 64 10 s r → r ≡ Ok n → Some n ≡ digits64 s
digits64-ok {E = E} s (Ok m) n ne e h is =
    let p : ((0 < length s) × (digits_value 10 s < 2 ^ 64)) × (m ≡ digits_value 10 s) = parse_digits own {E = E} 64 s (Ok m) h (all_digits s ∙ e) in
    let same : m ≡ n = cc in
    rw (sym same, p.1) (sym (digits64-some s p.0.0 e ∙ rw (lt-ltb (digits_value 10 s) (2 ^ 64) p.0.1) refl))
digits64-ok {E = E} s (Err x) n ne e h is = absurd cc

pub digits64-err : {E : Type 0} (s : List ℕ) (r : Result ℕ E) (x : E) → length s ≢ 0 → list_all is_ascii_digit s ≡ true → ParsesUnsigned 64 10 s r → r ≡ Err x → None ≡ digits64 s
digits64-err {E = E} s (Ok m) x ne e h is = absurd cc
digits64-err {E = E} s (Err y) x ne e h is =
    let p : ¬ ((0 < length s) × (digits_value 10 s < 2 ^ 64)) = parse_digits own {E = E} 64 s (Err y) h (all_digits s ∙ e) in
    let some : 0 < length s = omega (arith, ne) in
    elim (cases_lt (digits_value 10 s) (2 ^ 64)) [
      | inl lt ↦ absurd (p (some, lt))
      | inr le ↦ sym (digits64-some s some e ∙ rw (le-ltb _ _ le) refl)
    ]

pub ruleset read_digits = (digits64-nil, digits64-other)
