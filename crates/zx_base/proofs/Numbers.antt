-- Numbers.
use Rattle.std.proofs.Common.{◌≡◌, ◌-◌, ℕ, pos, ◌^◌, ◌<◌, ◌/◌, zero, suc, arith, negsuc, refl, ℤ, true, false, ◌≤◌}
use Rattle.std.specs.Cmp.Lexicographic.{nat_list_eq_equiv}
use Rattle.zx_base.specs.Maps.{Bytes, same}
use Rattle.std.specs.Int.{byte_at}
use Rattle.std.proofs.Math.Nat.{mod-lt}
use Rattle.std.specs.Ordering.{int_eq}
use Rattle.std.proofs.lemmas.Bool.Decides.{Decides-int_eq}
use Rattle.std.proofs.lemmas.Int.{ints}
use Rattle.std.specs.Prelude.{nat_abs, ◌≤ℤ◌}

pub same-symm : (p q : Bytes) → same p q ≡ same q p
same-symm p q = nat_list_eq_equiv.symm p q

pub pos-same : (m n : ℕ) → pos m ≡ pos n → m ≡ n
pos-same m n e = cc

pub byte_at-below : (k n : ℕ) → byte_at k n < 256
byte_at-below zero n = mod-lt n (omega arith)
byte_at-below (suc k) n = mod-lt (n / 256 ^ suc k) (omega arith)

pub pos-abs : (z : ℤ) → pos 1 ≤ℤ z → pos (nat_abs z) ≡ z
pos-abs (pos n) h = refl
pos-abs (negsuc n) h = absurd (omega (arith, ints, h))

pub pos-nonzero : (r : ℕ) → 1 ≤ r → int_eq (pos r) (pos 0) ≡ false
pos-nonzero r some = elim (int_eq (pos r) (pos 0)) as (λ b. int_eq (pos r) (pos 0) ≡ b → b ≡ false) [
  | true ↦ λ h. absurd (let e : pos r ≡ pos 0 = (Decides-int_eq (pos r) (pos 0)).0 h in omega (arith, ints))
  | false ↦ λ h. refl
] refl
