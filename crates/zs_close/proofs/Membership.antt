-- What a list contains, told by tests.
use Rattle.std.proofs.Common.{◌≡◌, ℕ, zero, suc, ◌<◌, true, false, ◌||◌, List, [], ◌∷◌, length, refl, sym, ap, ◌∙◌, arith}
use Rattle.std.specs.Prelude.{Contains, slice_index_or}
use Rattle.std.specs.List.{list_any}
use Rattle.std.proofs.lemmas.Bool.{or_right}
use Rattle.zx_base.specs.Maps.{Bytes, same}
use Rattle.zx_base.proofs.MapLaws.{same-refl, same-true}

any_at : (p : Bytes) (ps : List Bytes) (k : ℕ) → k < length ps → slice_index_or ps k p ≡ p → list_any (same p) ps ≡ true
any_at p [] k lt e = absurd (omega (arith, lt))
any_at p (q ∷ ps) zero lt e = ap (λ (x : Bytes). same p x || list_any (same p) ps) e ∙ ap (λ b. b || list_any (same p) ps) (same-refl p)
any_at p (q ∷ ps) (suc k) lt e = or_right (same p q) (list_any (same p) ps) (any_at p ps k (omega (arith, lt)) e)

pub any-contained : (p : Bytes) (ps : List Bytes) → Contains ps p → list_any (same p) ps ≡ true
any-contained p ps c = any_at p ps c.0 c.1 c.2

later : {X : Type 0} (x y : X) (xs : List X) → Contains xs x → Contains (y ∷ xs) x
later x y xs c = let lt = c.1 in (suc c.0, omega (arith, lt), c.2)

pub contained-any : (p : Bytes) (ps : List Bytes) → list_any (same p) ps ≡ true → Contains ps p
contained-any p [] h = absurd (cc)
contained-any p (q ∷ ps) h = elim (same p q) as (λ b. same p q ≡ b → (b || list_any (same p) ps) ≡ true → Contains (q ∷ ps) p) [
  | true ↦ λ e is. (zero, omega arith, sym (same-true p q e))
  | false ↦ λ e is. later p q ps (contained-any p ps is)
] refl h
