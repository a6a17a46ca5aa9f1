-- Keys that are put in their place.
use Rattle.std.proofs.Common.{◌≡◌, ◌∙◌, refl, ap, List, [], ◌∷◌, ◌++◌, ◌<◌, zero, suc, ◌+◌, length, take, drop, cond, true, false, arith, slice_set, ℕ}
use Rattle.std.specs.Prelude.{All}
use Rattle.std.proofs.lemmas.List.Elements.{All-cons, All-head, All-tail, All-nil}
use Rattle.zx_base.specs.Maps.{same}
use Rattle.zn_view.specs.declared.snapshot.SeenKey.{SeenKey}
use Rattle.zn_view.specs.Laying.{placed}

pub set-parts : {A : Type 0} (xs : List A) (k : ℕ) (x : A) → k < length xs → take k xs ++ x ∷ drop (k + 1) xs ≡ slice_set xs k x
set-parts [] k x h = absurd (omega (arith, h))
set-parts (y ∷ ys) zero x h = refl
set-parts {A = A} (y ∷ ys) (suc k) x h =
    let more : suc k + 1 ≡ suc (k + 1) = omega arith in
    ap (λ (n : ℕ). take (suc k) (y ∷ ys) ++ x ∷ drop n (y ∷ ys)) more ∙ ap (λ (l : List A). y ∷ l) (set-parts ys k x (omega (arith, h)))

pub placed-all : (P : SeenKey → Type 0) (x : SeenKey) (xs : List SeenKey) → P x → All P xs → All P (placed x xs)
placed-all P x [] here all = All-cons P x [] here (All-nil P)
placed-all P x (y ∷ ys) here all = elim (same y.key x.key) as (λ b. All P (cond b (x ∷ ys) (y ∷ placed x ys))) [
  | true ↦ All-cons P x ys here (All-tail P y ys all)
  | false ↦ All-cons P y (placed x ys) (All-head P y ys all) (placed-all P x ys here (All-tail P y ys all))
]
