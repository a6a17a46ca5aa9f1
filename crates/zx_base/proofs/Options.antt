-- `Some` is not `None`, and the items of equal `Some`s are equal.
use Rattle.std.proofs.Common.{◌≡◌, Option, Some, None, refl, false, ℕ, true, Bool, cond, ◌≢◌, sym, true≢false}
use Rattle.std.specs.Prelude.{is_some, option_map, is_none}

pub none_some : {A : Type 0} {x : A} → None ≡ Some x → ⊥
none_some e = cc

pub some_none : {A : Type 0} {x : A} → Some x ≡ None → ⊥
some_none e = cc

pub some_is : {A : Type 0} {x y : A} → Some x ≡ Some y → x ≡ y
some_is e = cc

pub none-unless_some : {A : Type 0} (o : Option A) → is_some o ≡ false → o ≡ None
none-unless_some None h = refl
none-unless_some (Some x) h = absurd (cc)

pub some-both : (n m : ℕ) (o : Option ℕ) → o ≡ Some n → o ≡ Some m → n ≡ m
some-both n m o one two = cc

pub there : (o : Option (Unit {0})) → is_some o ≡ true → o ≡ Some tt
there None h = absurd (cc)
there (Some u) h = refl

pub is_some-map : {A B : Type 0} (g : A → B) (o : Option A) → is_some (option_map g o) ≡ is_some o
is_some-map g None = refl
is_some-map g (Some x) = refl

pub cond-none : {X : Type 0} (b : Bool) → ◌≡◌ {A = Option X} (cond b None None) None
cond-none true = refl
cond-none false = refl

pub none-from_is_none : {A : Type 0} (o : Option A) → is_none o ≡ true → o ≡ None
none-from_is_none None h = refl
none-from_is_none (Some x) h = absurd (cc)

pub some-from_is_some : {A : Type 0} (o : Option A) → is_some o ≡ true → (a : A) × (o ≡ Some a)
some-from_is_some None e = absurd (true≢false (sym e))
some-from_is_some (Some a) e = (a, refl)
