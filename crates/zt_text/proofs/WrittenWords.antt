-- The words of a transcript's lines: none has a blank or a line feed, and each is read back.
use Rattle.std.proofs.Common.{◌≡◌, ℕ, zero, suc, ◌+◌, ◌-◌, zero-add, ◌*◌, ◌/◌, ◌%◌, ◌^◌, ◌<◌, ◌==◌, Bool, true, false, inl, inr, List, [], ◌∷◌, ◌++◌, ℤ, pos, negsuc, Option, Some, None, option_map, refl, ap, ◌∙◌, arith}
use Rattle.std.specs.Prelude.{nat_abs, nat_lt, decimal}
use Rattle.std.specs.Fmt.{digits, digits_onto, digit_glyph, signed_decimal}
use Rattle.std.specs.List.{list_all}
use Rattle.std.specs.Int.{bytes_high_first, from_be_bytes, to_be_bytes, w64}
use Rattle.std.proofs.lemmas.Bool.{and_from, and_right, cases_Bool, lt-ltb}
use Rattle.std.proofs.lemmas.Fmt.{decimal_by_steps}
use Rattle.std.proofs.lemmas.Grind.{common_steps}
use Rattle.std.proofs.lemmas.Int.{ints}
use Rattle.std.proofs.lemmas.Nat.{from_be_bytes-to_be_bytes_8}
use Rattle.zt_text.specs.Scripts.{decimal_digit, digits_value, hex, hex_byte, hex_value, hex_pairs, ◌>>=◌}
use Rattle.zt_text.specs.Transcripts.{AreBytes, IsSessionNumber, IsSignedNumber, hex_digit_text, hex_spelled, hex_text, id_text}
use Rattle.zx_base.proofs.Numbers.{byte_at-below}

-- ---- no blank and no line feed

abbrev pub is_word : List ℕ → Bool
is_word w = list_all (λ b. nat_lt 32 b) w

glyph-is_word : (d : ℕ) → nat_lt 32 (digit_glyph false d) ≡ true
glyph-is_word d = elim (cases_Bool (nat_lt d 10)) [
  | inl small ↦ rw small (lt-ltb 32 (48 + d) (omega arith))
  | inr large ↦ rw large (lt-ltb 32 (87 + d) (omega arith))
]

digits_onto-is_word : (k n : ℕ) (more : List ℕ) → is_word more ≡ true → is_word (digits_onto k 10 false n more) ≡ true
digits_onto-is_word zero n more words = words
digits_onto-is_word (suc k) n more words =
    let next : is_word (digit_glyph false (n % 10) ∷ more) ≡ true = and_from _ _ (glyph-is_word (n % 10)) words in
    elim (cases_Bool (n / 10 == 0)) [
      | inl last ↦ rw last next
      | inr others ↦ rw others (digits_onto-is_word k (n / 10) (digit_glyph false (n % 10) ∷ more) next)
    ]

pub decimal-is_word : (n : ℕ) → is_word (decimal n) ≡ true
unfolding digits
decimal-is_word n = digits_onto-is_word 64 n [] refl

pub signed_decimal-is_word : (z : ℤ) → is_word (signed_decimal z) ≡ true
signed_decimal-is_word (pos n) = decimal-is_word n
signed_decimal-is_word (negsuc n) = decimal-is_word (suc n)

hex_digit_text-is_word : (d : ℕ) → nat_lt 32 (hex_digit_text d) ≡ true
hex_digit_text-is_word d = elim (cases_Bool (nat_lt d 10)) [
  | inl small ↦ rw small (lt-ltb 32 (48 + d) (omega arith))
  | inr large ↦ rw large (lt-ltb 32 (87 + d) (omega arith))
]

hex_digits-is_word : (bytes : List ℕ) → is_word (hex_spelled bytes) ≡ true
unfolding hex_spelled
hex_digits-is_word [] = refl
hex_digits-is_word (b ∷ bs) = and_from _ _ (hex_digit_text-is_word (b / 16)) (and_from _ _ (hex_digit_text-is_word (b % 16)) (hex_digits-is_word bs))

pub hex_text-is_word : (bytes : List ℕ) → is_word (hex_text bytes) ≡ true
unfolding hex_text
hex_text-is_word [] = refl
hex_text-is_word (b ∷ bs) = hex_digits-is_word (b ∷ bs)

pub id_text-is_word : (id : ℤ) → is_word (id_text id) ≡ true
unfolding id_text
id_text-is_word id = hex_digits-is_word (to_be_bytes w64 (nat_abs id))

-- ---- each is read back

unfoldable pub natural : List ℕ → Option ℕ
natural w = digits_value 10 decimal_digit 0 w

digits_value-append : (n : ℕ) (xs ys : List ℕ) →
    digits_value 10 decimal_digit n (xs ++ ys) ≡ (digits_value 10 decimal_digit n xs >>= (λ (m : ℕ). digits_value 10 decimal_digit m ys))
digits_value-append n [] ys = refl
digits_value-append n (x ∷ xs) ys =
    elim (decimal_digit x) as (λ o. (o >>= (λ (d : ℕ). digits_value 10 decimal_digit (n * 10 + d) (xs ++ ys)))
    ≡ ((o >>= (λ (d : ℕ). digits_value 10 decimal_digit (n * 10 + d) xs)) >>= (λ (m : ℕ). digits_value 10 decimal_digit m ys))) [
      | None ↦ refl
      | Some d ↦ digits_value-append (n * 10 + d) xs ys
    ]

decimal_digit-of : (d : ℕ) → d < 10 → decimal_digit (48 + d) ≡ Some d
decimal_digit-of d small = grind (arith, common_steps)

pub digits_value-decimal : (n : ℕ) → n < 2 ^ 64 → digits_value 10 decimal_digit 0 (decimal n) ≡ Some n
digits_value-decimal =
    decimal_by_steps (λ n ds. digits_value 10 decimal_digit 0 ds ≡ Some n)
    (λ n small. let digit = decimal_digit-of n small in rw digit (ap Some (zero-add n)))
    (λ n ds large front.
    let digit = decimal_digit-of (n % 10) (omega arith) in
    let whole : n / 10 * 10 + n % 10 ≡ n = omega arith in
    digits_value-append 0 ds ((48 + n % 10) ∷ []) ∙ rw (front, digit, whole) refl)

pub natural-decimal : (n : ℕ) → n < 2 ^ 64 → natural (decimal n) ≡ Some n
unfolding natural
natural-decimal n fits = digits_value-decimal n fits

abbrev negative : List ℕ → Option ℤ
negative [] = None
negative (b ∷ bs) = option_map (λ (n : ℕ). negsuc (n - 1)) (natural bs)

abbrev signed_or : List ℕ → Option ℕ → Option ℤ
signed_or w (Some n) = Some (pos n)
signed_or w None = negative w

unfoldable pub signed : List ℕ → Option ℤ
signed w = signed_or w (natural w)

pub signed-signed_decimal : (z : ℤ) → IsSignedNumber z → signed (signed_decimal z) ≡ Some z
unfolding signed natural
signed-signed_decimal (pos n) fits = ap (signed_or (decimal n)) (natural-decimal n fits)
signed-signed_decimal (negsuc n) fits =
    let back = natural-decimal (suc n) fits in
    let less : suc n - 1 ≡ n = omega arith in
    rw (back, less) refl

pub hex_digit-of : (d : ℕ) → d < 16 → hex_value (hex_digit_text d) ≡ Some d
hex_digit-of d small = grind (arith, common_steps)

hex_byte-of : (b : ℕ) → b < 256 → hex_byte (hex_digit_text (b / 16)) (hex_digit_text (b % 16)) ≡ Some b
unfolding hex_byte
hex_byte-of b byte =
    let high = hex_digit-of (b / 16) (omega arith) in
    let low = hex_digit-of (b % 16) (omega arith) in
    let whole : b / 16 * 16 + b % 16 ≡ b = omega arith in
    rw (high, low, whole) refl

pub hex_pairs-hex_digits : (bytes : List ℕ) → AreBytes bytes → hex_pairs (hex_spelled bytes) ≡ Some bytes
unfolding hex_pairs hex_spelled
hex_pairs-hex_digits [] fits = refl
hex_pairs-hex_digits (b ∷ bs) fits =
    let first = hex_byte-of b fits.0 in
    let rest = hex_pairs-hex_digits bs fits.1 in
    rw (first, rest) refl

pub hex-hex_text : (bytes : List ℕ) → AreBytes bytes → hex (hex_text bytes) ≡ Some bytes
unfolding hex hex_text hex_spelled
hex-hex_text [] fits = refl
hex-hex_text (b ∷ bs) fits =
    let other = and_right (hex_digit_text (b / 16) == 45) false refl in
    rw other (hex_pairs-hex_digits (b ∷ bs) fits)

pub bytes_high_first-bytes : (k n : ℕ) → AreBytes (bytes_high_first k n)
bytes_high_first-bytes zero n = tt
bytes_high_first-bytes (suc k) n = (byte_at-below k n, bytes_high_first-bytes k n)

unfoldable pub session_number : List ℕ → Option ℤ
session_number w = option_map (λ (bytes : List ℕ). pos (from_be_bytes w64 bytes)) (hex_pairs w)

pub session_number-id_text : (id : ℤ) → IsSessionNumber id → session_number (id_text id) ≡ Some id
unfolding id_text session_number
session_number-id_text (pos n) fits =
    let back = hex_pairs-hex_digits (to_be_bytes w64 n) (bytes_high_first-bytes 8 n) in
    rw back (ap (λ (m : ℕ). Some (pos m)) (from_be_bytes-to_be_bytes_8 n fits.1))
session_number-id_text (negsuc n) fits = absurd (omega (arith, ints))
