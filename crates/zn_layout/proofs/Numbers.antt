-- Numbers as bytes, and back, with other bytes after them.
use Rattle.std.proofs.Common.{◌≡◌, ℕ, ◌+◌, ◌-◌, ◌*◌, ◌^◌, ◌<◌, ◌≤◌, ◌/◌, ◌%◌, zero, suc, ℤ, [], ◌∷◌, ◌++◌, length, take, drop, get_or, refl, sym, ap, ◌∙◌, arith}
use Rattle.std.specs.Int.{w32, w64, bytes_high_first, cast_signed, cast_unsigned}
use lib.Signed.{mag}
use mir.Val.{to_z, of_z}
use Rattle.std.specs.Int.RustNames.{FitsSigned}
use Rattle.std.proofs.lemmas.Int.{to_z-of_z, of_z-to_z, ints}
use Rattle.std.proofs.lemmas.Nat.{div-mul-add, mod-mul-add}
use Rattle.std.proofs.lemmas.List.{append-nil, length-drop, length-take-le, take_all, take-append-drop, drop_at}
use Rattle.byteorder.specs.Endian.{big_number, big_from, big_bytes}
use Rattle.byteorder.specs.Numbers.{big_number-reads_back, big_from-cons, big_from-take, big_from-lt, length-bytes_high_first}
use Rattle.zk_jute.specs.JuteWriting.{int_bytes, long_bytes}
use Rattle.zk_jute.proofs.Lengths.{length-int_bytes, length-long_bytes}
use Rattle.zx_base.specs.Maps.{Bytes}
use Rattle.zx_base.proofs.Numbers.{byte_at-below}

-- each of these numbers is below 256
abbrev pub AreBytes : Bytes → Type 0
AreBytes xs = (k : ℕ) → get_or xs k 0 < 256

rest_bytes : (x : ℕ) (xs : Bytes) → AreBytes (x ∷ xs) → AreBytes xs
rest_bytes x xs h k = h (suc k)

front_bytes : (n : ℕ) (xs : Bytes) → AreBytes xs → AreBytes (take n xs)
front_bytes zero xs h k = omega arith
front_bytes (suc n) [] h k = omega arith
front_bytes (suc n) (x ∷ xs) h zero = h 0
front_bytes (suc n) (x ∷ xs) h (suc k) = front_bytes n xs (rest_bytes x xs h) k

AreBytes-made : (n x : ℕ) → AreBytes (bytes_high_first n x)
AreBytes-made zero x k = omega arith
AreBytes-made (suc n) x zero = byte_at-below n x
AreBytes-made (suc n) x (suc k) = AreBytes-made n x k

-- ---- the bytes of the number in the first n bytes are those bytes

number_back : (n x : ℕ) → x < 256 ^ n → big_number n (big_bytes n x) ≡ x
number_back n x lt = ap (big_number n) (sym (append-nil (big_bytes n x))) ∙ big_number-reads_back n x [] lt

-- two digits of any base, the lower one below it
digits_same : (a b w x y : ℕ) → x < w → y < w → a * w + x ≡ b * w + y → (a ≡ b) × (x ≡ y)
digits_same a b w x y lx ly e =
    (sym (div-mul-add a w x lx) ∙ ap (λ n. n / w) e ∙ div-mul-add b w y ly, sym (mod-mul-add a w x lx) ∙ ap (λ n. n % w) e ∙ mod-mul-add b w y ly)

numbers_same : (n : ℕ) (xs ys : Bytes) → length xs ≡ n → length ys ≡ n → AreBytes xs → AreBytes ys → big_number n xs ≡ big_number n ys → xs ≡ ys
numbers_same zero [] [] lx ly bx by e = refl
numbers_same zero (x ∷ xs) ys lx ly bx by e = absurd (omega arith)
numbers_same zero [] (y ∷ ys) lx ly bx by e = absurd (omega arith)
numbers_same (suc n) [] ys lx ly bx by e = absurd (omega arith)
numbers_same (suc n) (x ∷ xs) [] lx ly bx by e = absurd (omega arith)
numbers_same (suc n) (x ∷ xs) (y ∷ ys) lx ly bx by e =
    let moved : x * 256 ^ n + big_from 0 n xs ≡ y * 256 ^ n + big_from 0 n ys = ap (λ r. x * 256 ^ n + r) (sym (big_from-cons 0 n x xs)) ∙ e ∙ ap (λ r. y * 256 ^ n + r) (big_from-cons 0 n y ys) in
    let d = digits_same x y (256 ^ n) (big_from 0 n xs) (big_from 0 n ys) (big_from-lt 0 n xs (rest_bytes x xs bx)) (big_from-lt 0 n ys (rest_bytes y ys by)) moved in
    let rest : xs ≡ ys = numbers_same n xs ys (omega arith) (omega arith) (rest_bytes x xs bx) (rest_bytes y ys by) d.1 in
    λ i. d.0 i ∷ rest i

pub bytes_again : (n : ℕ) (xs : Bytes) → n ≤ length xs → AreBytes xs → big_bytes n (big_number n xs) ≡ take n xs
bytes_again n xs le bytes =
    let front : big_number n (take n xs) ≡ big_number n xs = big_from-take 0 n n xs (omega arith) in
    numbers_same n (big_bytes n (big_number n xs)) (take n xs)
    (length-bytes_high_first n (big_number n xs)) (length-take-le n xs le)
    (AreBytes-made n (big_number n xs)) (front_bytes n xs bytes)
    (number_back n (big_number n xs) (big_from-lt 0 n xs bytes) ∙ sym front)

-- ---- four and eight bytes

pub int_back : (n : ℤ) (rest : Bytes) → FitsSigned w32 n → cast_signed w32 (big_number 4 (int_bytes n ++ rest)) ≡ n
unfolding int_bytes
int_back n rest fits =
    let lt : cast_unsigned w32 n < 256 ^ 4 = omega (arith, ints) in
    ap (cast_signed w32) (big_number-reads_back 4 (cast_unsigned w32 n) rest lt) ∙ to_z-of_z w32 n fits

pub long_back : (n : ℤ) (rest : Bytes) → FitsSigned w64 n → cast_signed w64 (big_number 8 (long_bytes n ++ rest)) ≡ n
unfolding long_bytes
long_back n rest fits =
    let lt : cast_unsigned w64 n < 256 ^ 8 = omega (arith, ints) in
    ap (cast_signed w64) (big_number-reads_back 8 (cast_unsigned w64 n) rest lt) ∙ to_z-of_z w64 n fits

pub drop-int : (n : ℤ) (rest : Bytes) → drop 4 (int_bytes n ++ rest) ≡ rest
drop-int n rest = drop_at (int_bytes n) rest 4 (length-int_bytes n)

pub drop-long : (n : ℤ) (rest : Bytes) → drop 8 (long_bytes n ++ rest) ≡ rest
drop-long n rest = drop_at (long_bytes n) rest 8 (length-long_bytes n)

-- bytes are those of the number that they begin with, and the rest
pub int_front : (xs : Bytes) → 4 ≤ length xs → AreBytes xs → xs ≡ int_bytes (cast_signed w32 (big_number 4 xs)) ++ drop 4 xs
unfolding int_bytes
int_front xs le bytes =
    let lt : big_number 4 xs < 256 ^ 4 = big_from-lt 0 4 xs bytes in
    sym (ap (λ (l : Bytes). l ++ drop 4 xs) (ap (big_bytes 4) (of_z-to_z w32 (big_number 4 xs) lt) ∙ bytes_again 4 xs le bytes) ∙ take-append-drop 4 xs)

pub long_front : (xs : Bytes) → 8 ≤ length xs → AreBytes xs → xs ≡ long_bytes (cast_signed w64 (big_number 8 xs)) ++ drop 8 xs
unfolding long_bytes
long_front xs le bytes =
    let lt : big_number 8 xs < 256 ^ 8 = big_from-lt 0 8 xs bytes in
    sym (ap (λ (l : Bytes). l ++ drop 8 xs) (ap (big_bytes 8) (of_z-to_z w64 (big_number 8 xs) lt) ∙ bytes_again 8 xs le bytes) ∙ take-append-drop 8 xs)

-- ---- as code splits them off

whole_rest : (n : ℕ) (xs : Bytes) → drop n xs ≡ take (length xs - n) (drop n xs)
whole_rest n xs = sym (take_all (length xs - n) (drop n xs) (omega (arith, length-drop n xs)))

pub int_split : (xs : Bytes) (a : ℤ) → 4 ≤ length xs → AreBytes xs → mag a < 2 ^ 31 → a ≡ cast_signed w32 (big_number 4 xs) → xs ≡ int_bytes (to_z w32 (of_z w32 a)) ++ take (length xs - 4) (drop 4 xs)
int_split xs a le bytes fits e = int_front xs le bytes ∙ (λ i. int_bytes ((sym e ∙ sym (to_z-of_z w32 a (record { sfits = fits }))) i) ++ whole_rest 4 xs i)

pub long_split : (xs : Bytes) (a : ℤ) → 8 ≤ length xs → AreBytes xs → mag a < 2 ^ 63 → a ≡ cast_signed w64 (big_number 8 xs) → xs ≡ long_bytes (to_z w64 (of_z w64 a)) ++ take (length xs - 8) (drop 8 xs)
long_split xs a le bytes fits e = long_front xs le bytes ∙ (λ i. long_bytes ((sym e ∙ sym (to_z-of_z w64 a (record { sfits = fits }))) i) ++ whole_rest 8 xs i)
