-- The connections of a world by their numbers, and the strays by theirs.
use Rattle.std.proofs.Common.{◌≡◌, ◌≢◌, ℕ, zero, suc, List, [], ◌∷◌, refl, ap, ◌∙◌, arith, Bool, true, false, cond, inl, inr}
use Rattle.std.specs.Prelude.{Option, Some, None, ◌⊎◌, ◌==◌, slice_get, slice_set}
use Rattle.std.specs.Cmp.{unsigned_tied}
use Rattle.std.specs.FinMap.{get, get-insert, insert}
use Rattle.std.proofs.lemmas.Bool.Decides.{nat_tests}
use Rattle.std.proofs.lemmas.Cmp.{nat_cmp_total}
use Rattle.zx_base.proofs.Options.{none_some}
use Rattle.zp_script.specs.declared.flight.Asking.{Asking}
use Rattle.zp_script.specs.Worlds.{Conn, Conns, World, conn_at, with_conn}
use Rattle.zp_world_laws.specs.Holding.{Left, Of, left_in}
use Rattle.zx_base.proofs.Booleans.{same-number}

pub number-same : (c d : ℕ) → (c == d) ≡ true → c ≡ d
number-same c d e = grind (arith, nat_tests)

pub other-number : (c d : ℕ) → c ≢ d → (c == d) ≡ false
other-number c d apart = go (c == d) refl
  where
    go : (b : Bool) → (c == d) ≡ b → b ≡ false
    go true e = absurd (apart (number-same c d e))
    go false e = refl

pub conn-with : (m : Conns) (c d : ℕ) (x : Conn) → get (insert m c x) d ≡ cond (d == c) (Some x) (get m d)
conn-with m c d x = get-insert nat_cmp_total m c x d ∙ ap (λ b. cond b (Some x) (get m d)) (unsigned_tied d c)

pub conn-here : (w : World) (c : ℕ) (x : Conn) → conn_at c (with_conn w c x) ≡ Some x
conn-here w c x = conn-with w.conns c c x ∙ ap (λ b. cond b (Some x) (get w.conns c)) (same-number c c refl)

pub conn-there : (w : World) (c d : ℕ) (x : Conn) → d ≢ c → conn_at d (with_conn w c x) ≡ conn_at d w
conn-there w c d x apart = conn-with w.conns c d x ∙ ap (λ b. cond b (Some x) (get w.conns d)) (other-number d c apart)

pub either-number : (d c : ℕ) → (d ≡ c) ⊎ (d ≢ c)
either-number d c = go (d == c) refl
  where
    go : (b : Bool) → (d == c) ≡ b → (d ≡ c) ⊎ (d ≢ c)
    go true e = inl (number-same d c e)
    go false e = inr (λ same. (let t = same-number d c same in absurd (cc)))

pub of-same : (c d : ℕ) → Of c ≡ Of d → c ≡ d
of-same c d e = cc

pub left-same : (j k : ℕ) → Left j ≡ Left k → j ≡ k
left-same j k e = cc

-- ---- strays

pub slice-set : {A : Type 0} (xs : List A) (i j : ℕ) (y z : A) → slice_get (slice_set xs i y) j ≡ Some z → ((j ≡ i) × (z ≡ y)) ⊎ ((j ≢ i) × (slice_get xs j ≡ Some z))
slice-set [] i j y z h = inr ((λ e. absurd (none_some h)), h)
slice-set (x ∷ xs) zero zero y z h = inl (refl, cc)
slice-set (x ∷ xs) zero (suc j) y z h = inr ((λ e. absurd (omega (arith, e))), h)
slice-set (x ∷ xs) (suc i) zero y z h = inr ((λ e. absurd (omega (arith, e))), h)
slice-set (x ∷ xs) (suc i) (suc j) y z h = elim (slice-set xs i j y z h) [
  | inl e ↦ inl (omega (arith, e.0), e.1)
  | inr e ↦ inr ((λ f. e.0 (omega (arith, f))), e.1)
]

pub left-some : (o : Option (Option Asking)) (x : Asking) → left_in o ≡ Some x → o ≡ Some (Some x)
left-some None x h = absurd (none_some h)
left-some (Some o) x h = ap (λ p. Some p) h
