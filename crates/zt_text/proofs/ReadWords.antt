-- The words of a transcript's lines, as they are read: numbers without leading zero, sessions' numbers, passwords.
use Rattle.std.proofs.Common.{◌≡◌, ℕ, suc, ◌+◌, ◌*◌, ◌/◌, ◌%◌, ◌^◌, ◌<◌, ◌≤◌, false, inl, inr, List, [], ◌∷◌, length, get_or, ℤ, pos, negsuc, ◌≤ℤ◌, Some, refl, ap, ◌∙◌, arith}
use Rattle.std.specs.Prelude.{decimal}
use Rattle.std.specs.Int.{byte_at, from_be_bytes, to_be_bytes, w64}
use Rattle.std.proofs.lemmas.Bool.{cases_lt, eq-eqb, lt-ltb, ne_eqb}
use Rattle.std.proofs.lemmas.Fmt.{decimal_digit as one_digit, first_decimal}
use Rattle.std.proofs.lemmas.Int.{ints}
use Rattle.std.proofs.lemmas.Nat.{from_be_bytes-to_be_bytes_8}
use Rattle.zk_model.specs.Limits.{max_long}
use Rattle.zt_text.specs.Scripts.{digits_value, hex_value, is_zero_led, password, session_id}
use Rattle.zt_text.specs.Transcripts.{AreBytes, hex_spelled, hex_text, id_text}
use Rattle.zt_text.proofs.WrittenWords.{bytes_high_first-bytes, hex_digit-of, hex_pairs-hex_digits}

-- ---- decimal numbers

not_zero_led : (w : List ℕ) → 48 < get_or w 0 0 → is_zero_led w ≡ false
not_zero_led [] high = refl
not_zero_led (b ∷ []) high = refl
not_zero_led (b ∷ c ∷ cs) high = let above : 48 < b = high in ne_eqb b 48 (λ same. omega arith)

pub is_zero_led-decimal : (n : ℕ) → n < 2 ^ 64 → is_zero_led (decimal n) ≡ false
is_zero_led-decimal n fits =
    elim (cases_lt 0 n) [
      | inl some ↦ not_zero_led (decimal n) (first_decimal n some fits)
      | inr none ↦ ap is_zero_led (one_digit n (omega arith))
    ]

-- no sign stands first
pub decimal-first : (n : ℕ) → n < 2 ^ 64 → 48 ≤ get_or (decimal n) 0 0
decimal-first n fits =
    elim (cases_lt 0 n) [
      | inl some ↦ omega (arith, first_decimal n some fits)
      | inr none ↦ let digit = one_digit n (omega arith) in let least : 48 ≤ 48 + n = omega arith in rw digit least
    ]

-- ---- hex digits

length-hex_digits : (bytes : List ℕ) → length (hex_spelled bytes) ≡ 2 * length bytes
unfolding hex_spelled
length-hex_digits [] = refl
length-hex_digits (b ∷ bs) =
    let more : suc (suc (2 * length bs)) ≡ 2 * suc (length bs) = omega arith in
    ap (λ (k : ℕ). suc (suc k)) (length-hex_digits bs) ∙ more

-- the number that n becomes by these further bytes, the high one first
abbrev bytes_value : ℕ → List ℕ → ℕ
bytes_value n [] = n
bytes_value n (b ∷ bs) = bytes_value (n * 256 + b) bs

digits_value-hex_digits : (n : ℕ) (bytes : List ℕ) → AreBytes bytes → digits_value 16 hex_value n (hex_spelled bytes) ≡ Some (bytes_value n bytes)
unfolding hex_spelled
digits_value-hex_digits n [] fits = refl
digits_value-hex_digits n (b ∷ bs) fits =
    let byte : b < 256 = fits.0 in
    let high = hex_digit-of (b / 16) (omega arith) in
    let low = hex_digit-of (b % 16) (omega arith) in
    let whole : (n * 16 + b / 16) * 16 + b % 16 ≡ n * 256 + b = omega arith in
    rw (high, low, whole) (digits_value-hex_digits (n * 256 + b) bs fits.1)

bytes_value-eight : (a b c d e f g h : ℕ) → bytes_value 0 (a ∷ b ∷ c ∷ d ∷ e ∷ f ∷ g ∷ h ∷ []) ≡ from_be_bytes w64 (a ∷ b ∷ c ∷ d ∷ e ∷ f ∷ g ∷ h ∷ [])
bytes_value-eight a b c d e f g h = omega arith

bytes_value-to_be_bytes : (n : ℕ) → n < 2 ^ 64 → bytes_value 0 (to_be_bytes w64 n) ≡ n
bytes_value-to_be_bytes n fits =
    bytes_value-eight (byte_at 7 n) (byte_at 6 n) (byte_at 5 n) (byte_at 4 n) (byte_at 3 n) (byte_at 2 n) (byte_at 1 n) (byte_at 0 n) ∙ from_be_bytes-to_be_bytes_8 n fits

-- ---- a session's number and its password

session_id-value : (w : List ℕ) (n : ℕ) → length w ≡ 16 → digits_value 16 hex_value 0 w ≡ Some n → 0 < n → n < 2 ^ 63 → session_id w ≡ Some (pos n)
unfolding session_id
session_id-value w n long value some below =
    let whole = eq-eqb (length w) 16 long in
    let least = lt-ltb 0 n some in
    let most = lt-ltb n (2 ^ 63) below in
    rw (whole, value, least, most) refl

pub session_id-id_text : (id : ℤ) → pos 1 ≤ℤ id → id ≤ℤ max_long → session_id (id_text id) ≡ Some id
unfolding id_text
session_id-id_text (pos n) least most =
    let some : 0 < n = omega (arith, ints) in
    let below : n < 2 ^ 63 = omega (arith, ints) in
    let value = digits_value-hex_digits 0 (to_be_bytes w64 n) (bytes_high_first-bytes 8 n) in
    let back = bytes_value-to_be_bytes n (omega arith) in
    session_id-value (hex_spelled (to_be_bytes w64 n)) n (length-hex_digits (to_be_bytes w64 n)) (value ∙ ap (λ (m : ℕ). Some m) back) some below
session_id-id_text (negsuc n) least most = absurd (omega (arith, ints))

pub password-hex_text : (bytes : List ℕ) → length bytes ≡ 16 → AreBytes bytes → password (hex_text bytes) ≡ Some bytes
unfolding hex_text password
password-hex_text [] long fits = absurd (omega arith)
password-hex_text (b ∷ bs) long fits =
    let whole = eq-eqb (length (hex_spelled (b ∷ bs))) 32 (length-hex_digits (b ∷ bs) ∙ ap (λ (k : ℕ). 2 * k) long) in
    rw whole (hex_pairs-hex_digits (b ∷ bs) fits)
