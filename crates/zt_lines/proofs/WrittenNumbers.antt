-- Numbers are read back as they were written.
use Rattle.std.proofs.Common.{◌≡◌, ℕ, suc, ◌-◌, ◌^◌, ◌<◌, ◌≤◌, false, List, [], ◌∷◌, length, get_or, ℤ, pos, negsuc, Some, refl, ap, ◌∙◌, arith}
use Rattle.std.specs.Prelude.{decimal}
use Rattle.std.specs.Fmt.{signed_decimal}
use Rattle.std.proofs.lemmas.Bool.{le-leb, lt-ltb, ne_eqb}
use Rattle.std.proofs.lemmas.Fmt.{decimal_nonempty}
use Rattle.std.proofs.lemmas.Int.{ints}
use Rattle.zt_text.specs.Scripts.{decimal_digit, digits_value, is_zero_led, max_number, number}
use Rattle.zt_text.proofs.ReadWords.{decimal-first, is_zero_led-decimal}
use Rattle.zt_text.proofs.WrittenWords.{digits_value-decimal}
use Rattle.zt_lines.specs.Readable.{FitsFrameLength, FitsLong}
use Rattle.zt_lines.specs.Words.{as_negative_length, length_word, long, max_place, natural, place}

natural-value : (most n : ℕ) (w : List ℕ) → 0 < length w → is_zero_led w ≡ false → digits_value 10 decimal_digit 0 w ≡ Some n → n ≤ most → natural most w ≡ Some n
unfolding natural
natural-value most n [] some led value fits = absurd (omega arith)
natural-value most n (b ∷ bs) some led value fits = let within = le-leb n most fits in rw (led, value, within) refl

natural-decimal : (most n : ℕ) → n ≤ most → n < 2 ^ 64 → natural most (decimal n) ≡ Some n
natural-decimal most n fits small =
    natural-value most n (decimal n) (decimal_nonempty n small) (is_zero_led-decimal n small) (digits_value-decimal n small) fits

pub number-natural : (w : List ℕ) → number w ≡ natural max_number w
unfolding number natural
number-natural [] = refl
number-natural (b ∷ bs) = refl

pub number-decimal : (n : ℕ) → n ≤ max_number → number (decimal n) ≡ Some n
number-decimal n fits = number-natural (decimal n) ∙ natural-decimal max_number n fits (omega arith)

pub place-decimal : (n : ℕ) → n ≤ max_place → place (decimal n) ≡ Some n
place-decimal n fits = natural-decimal max_place n fits (omega arith)

-- ---- signed numbers

long-decimal : (n : ℕ) → n < 2 ^ 63 → long (decimal n) ≡ Some (pos n)
unfolding long
long-decimal n fits =
    let read = place-decimal n (omega arith) in
    let within = lt-ltb n (2 ^ 63) fits in
    rw (read, within) refl

pub long-signed_decimal : (z : ℤ) → FitsLong z → long (signed_decimal z) ≡ Some z
long-signed_decimal (pos n) fits = let most = fits.1 in long-decimal n (omega (arith, ints))
long-signed_decimal (negsuc n) fits = let least = fits.0 in absurd (omega (arith, ints))

-- a length without `-` in front, which is 45
length_word-digits : (w : List ℕ) (n : ℕ) → 48 ≤ get_or w 0 0 → place w ≡ Some n → n < 2 ^ 31 → length_word w ≡ Some (pos n)
unfolding length_word
length_word-digits [] n first read fits = let low : 48 ≤ 0 = first in absurd (omega arith)
length_word-digits (b ∷ bs) n first read fits =
    let above : 48 ≤ b = first in
    let other = ne_eqb b 45 (λ same. omega arith) in
    let within = lt-ltb n (2 ^ 31) fits in
    rw (other, read, within) refl

as_negative_length-within : (n : ℕ) → 0 < n → n ≤ 2 ^ 31 → as_negative_length n ≡ Some (negsuc (n - 1))
as_negative_length-within n some fits =
    let least = lt-ltb 0 n some in
    let most = le-leb n (2 ^ 31) fits in
    rw (least, most) refl

length_word-negative : (n : ℕ) → n < 2 ^ 31 → length_word (45 ∷ decimal (suc n)) ≡ Some (negsuc n)
unfolding length_word
length_word-negative n fits =
    let read = place-decimal (suc n) (omega arith) in
    let less : suc n - 1 ≡ n = omega arith in
    rw read (as_negative_length-within (suc n) (omega arith) (omega arith) ∙ ap (λ (m : ℕ). Some (negsuc m)) less)

pub length_word-signed_decimal : (z : ℤ) → FitsFrameLength z → length_word (signed_decimal z) ≡ Some z
length_word-signed_decimal (pos n) fits =
    let most = fits.1 in
    let small : n < 2 ^ 31 = omega (arith, ints) in
    length_word-digits (decimal n) n (decimal-first n (omega arith)) (place-decimal n (omega arith)) small
length_word-signed_decimal (negsuc n) fits =
    let least = fits.0 in
    let small : n < 2 ^ 31 = omega (arith, ints) in
    length_word-negative n small
