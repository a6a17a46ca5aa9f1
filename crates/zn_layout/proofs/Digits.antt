-- A number's hex digits, written from the last one.
use Rattle.std.proofs.Common.{◌≡◌, ℕ, ◌+◌, ◌-◌, ◌*◌, ◌^◌, ◌<◌, ◌≤◌, ◌/◌, ◌%◌, suc, ◌∷◌, length, drop, set, sym, ap, ◌∙◌, subst, arith}
use Rattle.std.proofs.Math.Nat.{mul-le-mul_right, mul_assoc, mul_comm, pow-suc}
use Rattle.std.proofs.lemmas.List.{drop-set, length-set}
use Rattle.zx_base.specs.Maps.{Bytes}
use Rattle.zn_layout.specs.Keys.{hex_digit, hex_digits}

-- after i digits of `whole`: those still to be written, in front of those that are written
pub record AreWritten (n : ℕ) (whole : Bytes) (i rest : ℕ) (digits : Bytes) : Type 0 where
  pub long : length digits ≡ 16
  pub small : rest * 16 ^ i ≤ n
  pub same : hex_digits (15 - i) rest (drop (16 - i) digits) ≡ whole

less : (rest p : ℕ) → rest / 16 * (p * 16) ≤ rest * p
less rest p =
    let le : rest / 16 * 16 * p ≤ rest * p = mul-le-mul_right p (omega arith) in
    let e : rest / 16 * (p * 16) ≡ rest / 16 * 16 * p = ap (λ x. rest / 16 * x) (mul_comm p 16) ∙ sym (mul_assoc (rest / 16) 16 p) in
    omega arith

next_same : (k rest : ℕ) (whole digits : Bytes) → k < 15 → length digits ≡ 16 → hex_digits (suc k) rest (drop (k + 2) digits) ≡ whole → hex_digits k (rest / 16) (drop (k + 1) (set digits (k + 1) (hex_digit (rest % 16)))) ≡ whole
unfolding hex_digits
next_same k rest whole digits lt long e = ap (hex_digits k (rest / 16)) (drop-set digits (k + 1) (hex_digit (rest % 16)) (omega arith) ∙ ap (λ j. hex_digit (rest % 16) ∷ drop j digits) (omega arith)) ∙ e

pub one_more : (n i rest : ℕ) (whole digits : Bytes) → i < 15 → AreWritten n whole i rest digits → AreWritten n whole (i + 1) (rest / 16) (set digits (15 - i) (hex_digit (rest % 16)))
one_more n i rest whole digits lt w =
    let k : ℕ = 15 - (i + 1) in
    let e1 : 15 - i ≡ suc k = omega arith in
    let e2 : 16 - i ≡ k + 2 = omega arith in
    let e3 : k + 1 ≡ 15 - i = omega arith in
    let e4 : k + 1 ≡ 16 - (i + 1) = omega arith in
    let small = w.small in
    let step = less rest (16 ^ i) in
    let power : 16 ^ (i + 1) ≡ 16 ^ i * 16 = ap (λ j. 16 ^ j) (let e : i + 1 ≡ suc i = omega arith in e) ∙ pow-suc 16 i in
    let before : hex_digits (suc k) rest (drop (k + 2) digits) ≡ whole = (λ j. hex_digits (sym e1 j) rest (drop (sym e2 j) digits)) ∙ w.same in
    let after : hex_digits k (rest / 16) (drop (k + 1) (set digits (k + 1) (hex_digit (rest % 16)))) ≡ whole = next_same k rest whole digits (omega arith) w.long before in
    record {
      long = length-set digits (15 - i) (hex_digit (rest % 16)) ∙ w.long;
      small = subst (λ (p : ℕ). rest / 16 * p ≤ n) (sym power) (omega arith);
      same = (λ j. hex_digits k (rest / 16) (drop (sym e4 j) (set digits (sym e3 j) (hex_digit (rest % 16))))) ∙ after;
    }

pub ended : (n rest : ℕ) (whole digits : Bytes) → AreWritten n whole 15 rest digits → set digits 0 (hex_digit rest) ≡ whole
unfolding hex_digits
ended n rest whole digits w = drop-set digits 0 (hex_digit rest) (let long = w.long in omega arith) ∙ w.same
