-- Truth values.
use Rattle.std.proofs.Common.{◌≡◌, Bool, true, false, ◌||◌, refl, ◌&&◌, ℤ, ap, ◌∙◌, ℕ, arith, cond}
use Rattle.std.specs.Ordering.{int_eq}
use Rattle.std.proofs.lemmas.Bool.Decides.{Decides-int_eq, nat_tests}
use Rattle.std.specs.Prelude.{T, not, ◌==◌, MatchBool}

pub or-second : (a b : Bool) → b ≡ true → (a || b) ≡ true
or-second true b h = refl
or-second false b h = h

pub and-both : (a b : Bool) → a ≡ true → b ≡ true → (a && b) ≡ true
and-both true b h k = k
and-both false b h k = h

pub and-split : (a b : Bool) → (a && b) ≡ true → (a ≡ true) × (b ≡ true)
and-split true b h = (refl, h)
and-split false b h = absurd (cc)

pub same-from_int_eq : (a b : ℤ) → int_eq a b ≡ true → a ≡ b
same-from_int_eq a b e = (Decides-int_eq a b).0 e

pub and-false : (b : Bool) → (b && false) ≡ false
and-false true = refl
and-false false = refl

pub true-from_T : (b : Bool) → T b → b ≡ true
true-from_T true h = refl
true-from_T false h = absurd h

pub not-true : (b : Bool) → not b ≡ true → b ≡ false
not-true true h = absurd (cc)
not-true false h = refl

pub or-swap : (a b c : Bool) → (a || (b || c)) ≡ (b || (a || c))
or-swap true true c = refl
or-swap true false c = refl
or-swap false b c = refl

pub or-neither : (a b : Bool) → a ≡ false → b ≡ false → (a || b) ≡ false
or-neither a b g h = ap (λ x. x || b) g ∙ h

pub or-first : (a b : Bool) → a ≡ true → (a || b) ≡ true
or-first true b h = refl
or-first false b h = absurd cc

pub and-first : (a b : Bool) → (a && b) ≡ true → a ≡ true
and-first true b h = refl
and-first false b h = h

pub or-again : (a b : Bool) → (a || b) ≡ (a || (a || b))
or-again true b = refl
or-again false b = refl

pub or-split : (a b : Bool) → (a || b) ≡ false → (a ≡ false) × (b ≡ false)
or-split true b h = absurd cc
or-split false b h = (refl, h)

pub T-and : (a b : Bool) → T a → T b → T (a && b)
T-and true b p q = q
T-and false b p q = p

pub T-first : (a b : Bool) → T (a && b) → T a
T-first true b h = tt
T-first false b h = h

pub T-second : (a b : Bool) → T (a && b) → T b
T-second true b h = h
T-second false b h = absurd h

pub false-unless_true : (b : Bool) → (b ≡ true → ⊥) → b ≡ false
false-unless_true true h = absurd (h refl)
false-unless_true false h = refl

pub same-test : (c : ℕ) → (c == c) ≡ true
same-test c = grind (arith, nat_tests)

pub true-not_false : true ≡ false → ⊥
true-not_false e = cc

pub false-not_true : {b : Bool} → b ≡ false → b ≡ true → ⊥
false-not_true h t = cc

pub or-other : (a b : Bool) → a ≡ false → (a || b) ≡ true → b ≡ true
or-other true b is h = absurd (cc)
or-other false b is h = h

pub and-second : (a b : Bool) → (a && b) ≡ true → b ≡ true
and-second true b h = h
and-second false b h = cc

pub same-number : (a b : ℕ) → a ≡ b → (a == b) ≡ true
same-number a b e = grind (arith, nat_tests)

pub same-int : (a b : ℤ) → a ≡ b → int_eq a b ≡ true
same-int a b e = (Decides-int_eq a b).1 e

pub either : (b : Bool) (P Q R : Type 0) → MatchBool b P Q → (P → R) → (Q → R) → R
either true P Q R h f g = f h
either false P Q R h f g = g h

pub and-true : (a : Bool) → (a && true) ≡ a
and-true true = refl
and-true false = refl

pub not_false : (b : Bool) → not b ≡ false → b ≡ true
not_false true h = refl
not_false false h = absurd (cc)

pub true-not : false ≡ true → ⊥
true-not e = cc

pub cond-same : {A : Type 0} (b : Bool) (x : A) → cond b x x ≡ x
cond-same true x = refl
cond-same false x = refl
