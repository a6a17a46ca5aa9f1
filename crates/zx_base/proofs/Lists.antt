-- Lists.
use Rattle.std.proofs.Common.{◌≡◌, ℕ, zero, suc, ◌<◌, List, [], ◌∷◌, take, refl, arith, Bool, ◌+◌, ◌≤◌, ◌++◌, ap, ◌-◌, true, false, cond, length}
use Rattle.std.specs.Prelude.{slice_get, filter}
use Rattle.std.specs.List.{list_any, list_all}
use Rattle.std.specs.Ordering.{nat_cmp, eq_by_cmp}
use Rattle.std.specs.Cmp.Lexicographic.{slice_cmp}
use Rattle.zx_base.specs.Maps.{Bytes}
use Rattle.std.proofs.lemmas.Bool.{and_parts, and_from}

pub slice_get-take : {A : Type 0} (xs : List A) (k j : ℕ) → j < k → slice_get (take k xs) j ≡ slice_get xs j
slice_get-take xs zero j h = absurd (omega arith)
slice_get-take [] (suc k) j h = refl
slice_get-take (x ∷ xs) (suc k) zero h = refl
slice_get-take (x ∷ xs) (suc k) (suc j) h = slice_get-take xs k j (omega arith)

-- a path is one of these
unfoldable pub has : List Bytes → Bytes → Bool
has ps p = list_any (eq_by_cmp (slice_cmp nat_cmp) p) ps

pub take-more : {A : Type 0} (a b : ℕ) (xs : List A) → a ≤ b → (more : List A) × (take b xs ≡ take a xs ++ more)
take-more zero b xs h = (take b xs, refl)
take-more (suc a) zero xs h = absurd (omega (arith, h))
take-more (suc a) (suc b) [] h = ([], refl)
take-more (suc a) (suc b) (x ∷ xs) h = let r = take-more a b xs (omega (arith, h)) in (r.0, ap (λ l. x ∷ l) r.1)

pub filter-length : {X : Type 0} (f : X → Bool) (xs : List X) → length (filter f xs) ≤ length xs
filter-length f [] = omega arith
filter-length f (x ∷ xs) = elim (f x) as (λ b. length (cond b (x ∷ filter f xs) (filter f xs)) ≤ length (x ∷ xs)) [
  | true ↦ let h = filter-length f xs in omega (arith, h)
  | false ↦ let h = filter-length f xs in omega (arith, h)
]

pub all-take : {A : Type 0} (p : A → Bool) (n : ℕ) (xs : List A) → list_all p xs ≡ true → list_all p (take n xs) ≡ true
all-take p zero xs h = refl
all-take p (suc n) [] h = refl
all-take p (suc n) (x ∷ xs) h = let parts = and_parts (p x) (list_all p xs) h in and_from (p x) (list_all p (take n xs)) parts.0 (all-take p n xs parts.1)

pub no-length : {X : Type 0} (xs : List X) → length xs ≡ 0 → xs ≡ []
no-length [] h = refl
no-length (x ∷ xs) h = absurd (omega arith)
