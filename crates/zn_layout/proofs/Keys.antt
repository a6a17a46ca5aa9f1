-- Keys of different kinds, paths or numbers differ.
use Rattle.std.proofs.Common.{◌≡◌, ◌≢◌, ℕ, true, false, ◌∷◌, [], refl, sym, ap, ◌∙◌, subst, arith, get_or, drop, zero, suc, ◌/◌, ◌%◌, eq-eqb, eqb-true}
use Rattle.std.proofs.lemmas.Bool.Decides.{nat_tests}
use Rattle.zx_base.specs.Maps.{Bytes}
use Rattle.zx_base.proofs.MapLaws.{same-refl, same-true}
use Rattle.zn_layout.specs.Keys.{Key, HeadKey, DataKey, CountsKey, SessionKey, LeaseKey, hex_digit, hex_digits, key_bytes, same_key}

-- ---- digits

hex_digit-injective : (m n : ℕ) → hex_digit m ≡ hex_digit n → m ≡ n
hex_digit-injective m n e = grind (arith, nat_tests)

parts_same : {x y : ℕ} {r s : Bytes} → x ∷ r ≡ y ∷ s → (x ≡ y) × (r ≡ s)
parts_same {x} {y} {r} {s} e = (ap (λ (l : Bytes). get_or l 0 0) e, ap (λ (l : Bytes). drop 1 l) e)

by_sixteen : (m n : ℕ) → m / 16 ≡ n / 16 → m % 16 ≡ n % 16 → m ≡ n
by_sixteen m n a b = omega arith

hex_digits-rest : (k m n : ℕ) (r s : Bytes) → hex_digits k m r ≡ hex_digits k n s → r ≡ s
unfolding hex_digits
hex_digits-rest zero m n r s e = (parts_same e).1
hex_digits-rest (suc k) m n r s e = (parts_same (hex_digits-rest k (m / 16) (n / 16) _ _ e)).1

hex_digits-injective : (k m n : ℕ) (r s : Bytes) → hex_digits k m r ≡ hex_digits k n s → m ≡ n
unfolding hex_digits
hex_digits-injective zero m n r s e = hex_digit-injective m n (parts_same e).0
hex_digits-injective (suc k) m n r s e =
    let front = hex_digits-injective k (m / 16) (n / 16) _ _ e in
    let back = hex_digits-rest k (m / 16) (n / 16) _ _ e in
    by_sixteen m n front (hex_digit-injective (m % 16) (n % 16) (parts_same back).0)

-- ---- kinds

-- the fourth byte, which tells the kind
abbrev letter : Key → ℕ
letter HeadKey = 104
letter (DataKey p) = 100
letter (CountsKey p) = 99
letter (SessionKey n) = 115
letter (LeaseKey n) = 108

letter_is : (k : Key) → get_or (key_bytes k) 3 0 ≡ letter k
unfolding key_bytes
letter_is HeadKey = refl
letter_is (DataKey p) = refl
letter_is (CountsKey p) = refl
letter_is (SessionKey n) = refl
letter_is (LeaseKey n) = refl

same_letter : (k l : Key) → key_bytes k ≡ key_bytes l → letter k ≡ letter l
same_letter k l e = sym (letter_is k) ∙ ap (λ (s : Bytes). get_or s 3 0) e ∙ letter_is l

-- keys with the same bytes are one
pub key_bytes-injective : (k l : Key) → key_bytes k ≡ key_bytes l → k ≡ l
unfolding key_bytes
key_bytes-injective HeadKey HeadKey e = refl
key_bytes-injective (DataKey p) (DataKey q) e = ap DataKey (ap (λ (s : Bytes). drop 9 s) e)
key_bytes-injective (CountsKey p) (CountsKey q) e = ap CountsKey (ap (λ (s : Bytes). drop 9 s) e)
key_bytes-injective (SessionKey m) (SessionKey n) e = ap SessionKey (hex_digits-injective 15 m n [] [] (ap (λ (s : Bytes). drop 5 s) e))
key_bytes-injective (LeaseKey m) (LeaseKey n) e = ap LeaseKey (hex_digits-injective 15 m n [] [] (ap (λ (s : Bytes). drop 5 s) e))
key_bytes-injective k l e = absurd (omega (arith, same_letter k l e))

-- ---- the test

pub same_key-refl : (k : Key) → same_key k k ≡ true
same_key-refl HeadKey = refl
same_key-refl (DataKey p) = same-refl p
same_key-refl (CountsKey p) = same-refl p
same_key-refl (SessionKey n) = eq-eqb n n refl
same_key-refl (LeaseKey n) = eq-eqb n n refl

pub same_key-true : (k l : Key) → same_key k l ≡ true → k ≡ l
same_key-true HeadKey HeadKey h = refl
same_key-true (DataKey p) (DataKey q) h = ap DataKey (same-true p q h)
same_key-true (CountsKey p) (CountsKey q) h = ap CountsKey (same-true p q h)
same_key-true (SessionKey m) (SessionKey n) h = ap SessionKey (eqb-true m n h)
same_key-true (LeaseKey m) (LeaseKey n) h = ap LeaseKey (eqb-true m n h)
same_key-true k l h = cc

pub same_key-false : (k l : Key) → same_key k l ≡ false → key_bytes k ≢ key_bytes l
same_key-false k l h e = let t : same_key k l ≡ true = subst (λ (x : Key). same_key k x ≡ true) (key_bytes-injective k l e) (same_key-refl k) in cc
