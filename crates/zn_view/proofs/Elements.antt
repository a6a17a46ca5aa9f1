-- Elements of lists.
use Rattle.std.proofs.Common.{◌≡◌, zero, suc, List, [], ◌∷◌, refl, sym, subst, ◌⊎◌, ⊎_elim, inl, inr, arith}
use Rattle.std.specs.Prelude.{Contains, map}

pub contains-first : {A : Type 0} (x : A) (xs : List A) → Contains (x ∷ xs) x
contains-first x xs = (0, omega arith, refl)

pub contains-rest : {A : Type 0} (x : A) (xs : List A) (y : A) → Contains xs y → Contains (x ∷ xs) y
contains-rest x xs y has = let lt = has.1 in (suc has.0, omega arith, has.2)

pub contains-cases : {A : Type 0} (x : A) (xs : List A) (y : A) → Contains (x ∷ xs) y → (x ≡ y) ⊎ Contains xs y
contains-cases x xs y (zero, lt, is) = inl is
contains-cases x xs y (suc k, lt, is) = inr (k, omega arith, is)

pub contains-map : {A B : Type 0} (f : A → B) (xs : List A) (x : A) → Contains xs x → Contains (map f xs) (f x)
contains-map f [] x has = absurd (let lt = has.1 in omega arith)
contains-map f (y ∷ xs) x has = ⊎_elim
    (λ e. subst (λ z. Contains (map f (y ∷ xs)) (f z)) e (contains-first (f y) (map f xs)))
    (λ h. contains-rest (f y) (map f xs) (f x) (contains-map f xs x h))
    (contains-cases y xs x has)

pub mapped-contained : {A B : Type 0} (f : A → B) (xs : List A) (y : B) → Contains (map f xs) y → (x : A) × Contains xs x × (y ≡ f x)
mapped-contained f [] y has = absurd (let lt = has.1 in omega arith)
mapped-contained f (x ∷ xs) y has = ⊎_elim
    (λ e. (x, contains-first x xs, sym e))
    (λ h. let rest = mapped-contained f xs y h in (rest.0, contains-rest x xs rest.0 rest.1, rest.2))
    (contains-cases (f x) (map f xs) y has)

pub empty-contains : {A : Type 0} (xs : List A) (x : A) → xs ≡ [] → Contains xs x → ⊥
empty-contains xs x e has = let none = subst (λ ys. Contains ys x) e has in let lt = none.1 in absurd (omega arith)
