-- A number that is read is written in one way, and is in range.
use Rattle.std.proofs.Common.{◌≡◌, ℕ, suc, ◌+◌, ◌-◌, ◌*◌, ◌^◌, ◌<◌, ◌≤◌, ◌==◌, false, ◌&&◌, List, [], ◌∷◌, length, get_or, ℤ, pos, negsuc, Some, None, refl, sym, ap, subst, ◌∙◌, arith}
use Rattle.std.specs.Prelude.{IfSome, decimal, nat_le, nat_lt}
use Rattle.std.specs.Fmt.{signed_decimal}
use Rattle.std.specs.Char.{digit_value}
use Rattle.std.specs.Str.Parse.{AllDigits, digits_value_after}
use Rattle.std.proofs.lemmas.Bool.{and_parts, cond_both, eq-eqb, eqb-true, false≢true, leb-true, ltb-true}
use Rattle.std.proofs.lemmas.Fmt.{decimal-digits_value}
use Rattle.std.proofs.lemmas.Int.{ints}
use Rattle.std.proofs.lemmas.Option.{IfSome_then}
use Rattle.std.proofs.lemmas.Str.{digit_value_digit}
use Rattle.std.proofs.lemmas.Str.Parse.{numerals_by_value, tells_digits}
use Rattle.zt_text.specs.Scripts.{decimal_digit, digits_value, is_zero_led, max_number, not_above, number, ◌>>=◌}
use Rattle.zt_lines.specs.Readable.{FitsFrameLength, FitsLong, FitsNumber, FitsPlace}
use Rattle.zt_lines.specs.Words.{as_length, as_long, as_negative_length, length_word, long, max_place, natural, place}
use Rattle.zt_lines.proofs.Steps.{in_steps}
use Rattle.zt_lines.proofs.WrittenNumbers.{number-natural}

-- ---- the digits, and their value

decimal_digit-written : (b : ℕ) → IfSome (decimal_digit b) (λ d. (digit_value b < 10) × (d ≡ digit_value b))
decimal_digit-written b =
    cond_both (nat_le 48 b && nat_le b 57) (Some (b - 48)) None (λ o. IfSome o (λ d. (digit_value b < 10) × (d ≡ digit_value b)))
    (λ digit.
    let parts = and_parts (nat_le 48 b) (nat_le b 57) digit in
    let least = leb-true 48 b parts.0 in
    let most = leb-true b 57 parts.1 in
    let value = digit_value_digit b (least, most) in
    (omega arith, omega arith))
    (λ other. tt)

digits_value-written : (n : ℕ) (w : List ℕ) → IfSome (digits_value 10 decimal_digit n w) (λ m. AllDigits 10 w × (m ≡ digits_value_after 10 n w))
digits_value-written n [] = (tt, refl)
digits_value-written n (b ∷ bs) =
    in_steps _ (decimal_digit b) (λ (d : ℕ). digits_value 10 decimal_digit (n * 10 + d) bs) (decimal_digit-written b) (λ d first.
    IfSome_then (digits_value 10 decimal_digit (n * 10 + d) bs) (digits_value-written (n * 10 + d) bs) (λ m rest.
    ((first.0, rest.0), rest.1 ∙ ap (λ (e : ℕ). digits_value_after 10 (n * 10 + e) bs) first.1)))

one_digit-led : (w : List ℕ) → is_zero_led w ≡ false → get_or w 0 0 ≡ 48 → length w ≡ 1
one_digit-led [] unled zero = let none : ◌≡◌ {A = ℕ} 0 48 = zero in absurd (omega arith)
one_digit-led (b ∷ []) unled zero = refl
one_digit-led (b ∷ c ∷ cs) unled zero = absurd (false≢true (sym unled ∙ eq-eqb b 48 zero))

decimal-written : (w : List ℕ) (n : ℕ) → AllDigits 10 w → n ≡ digits_value_after 10 0 w → 0 < length w → is_zero_led w ≡ false → n < 2 ^ 64 → w ≡ decimal n
decimal-written w n digits value some unled small =
    sym (decimal-digits_value (numerals_by_value (AllDigits 10) tells_digits) w digits some (one_digit-led w unled) (omega arith)) ∙ ap decimal (sym value)

-- ---- numbers without sign

abbrev IsNaturalOf : ℕ → List ℕ → ℕ → Type 0
IsNaturalOf most w n = (w ≡ decimal n) × (n ≤ most)

not_above-written : (most n : ℕ) → IfSome (not_above most n) (λ m. (m ≡ n) × (m ≤ most))
not_above-written most n = cond_both (nat_le n most) (Some n) None (λ o. IfSome o (λ m. (m ≡ n) × (m ≤ most))) (λ within. (refl, leb-true n most within)) (λ above. tt)

natural-written : (most : ℕ) (w : List ℕ) → most < 2 ^ 64 → IfSome (natural most w) (IsNaturalOf most w)
unfolding natural
natural-written most [] small = tt
natural-written most (b ∷ bs) small =
    cond_both (is_zero_led (b ∷ bs)) None (digits_value 10 decimal_digit 0 (b ∷ bs) >>= not_above most) (λ o. IfSome o (IsNaturalOf most (b ∷ bs))) (λ led. tt) (λ unled.
    in_steps _ (digits_value 10 decimal_digit 0 (b ∷ bs)) (not_above most) (digits_value-written 0 (b ∷ bs)) (λ n digits.
    IfSome_then (not_above most n) (not_above-written most n) (λ m within.
    (decimal-written (b ∷ bs) m digits.0 (within.0 ∙ digits.1) (omega arith) unled (omega (arith, within.1)), within.1))))

pub number-written : (w : List ℕ) → IfSome (number w) (λ n. (w ≡ decimal n) × FitsNumber n)
number-written w = subst (λ o. IfSome o (IsNaturalOf max_number w)) (sym (number-natural w)) (natural-written max_number w (omega arith))

pub place-written : (w : List ℕ) → IfSome (place w) (λ n. (w ≡ decimal n) × FitsPlace n)
place-written w = natural-written max_place w (omega arith)

-- ---- signed numbers

as_long-written : (n : ℕ) → IfSome (as_long n) (λ z. (pos n ≡ z) × FitsLong z)
as_long-written n =
    cond_both (nat_lt n (2 ^ 63)) (Some (pos n)) None (λ o. IfSome o (λ z. (pos n ≡ z) × FitsLong z))
    (λ small. let below = ltb-true n (2 ^ 63) small in (refl, (omega (arith, ints), omega (arith, ints)))) (λ large. tt)

pub long-written : (w : List ℕ) → IfSome (long w) (λ z. (w ≡ signed_decimal z) × FitsLong z)
unfolding long
long-written w =
    in_steps _ (place w) as_long (place-written w) (λ n digits.
    IfSome_then (as_long n) (as_long-written n) (λ z h. (digits.0 ∙ ap signed_decimal h.0, h.1)))

as_length-written : (n : ℕ) → IfSome (as_length n) (λ z. (pos n ≡ z) × FitsFrameLength z)
as_length-written n =
    cond_both (nat_lt n (2 ^ 31)) (Some (pos n)) None (λ o. IfSome o (λ z. (pos n ≡ z) × FitsFrameLength z))
    (λ small. let below = ltb-true n (2 ^ 31) small in (refl, (omega (arith, ints), omega (arith, ints)))) (λ large. tt)

-- with `-` in front, which is 45
as_negative_length-written : (n : ℕ) → IfSome (as_negative_length n) (λ z. (45 ∷ decimal n ≡ signed_decimal z) × FitsFrameLength z)
as_negative_length-written n =
    cond_both (nat_lt 0 n && nat_le n (2 ^ 31)) (Some (negsuc (n - 1))) None (λ o. IfSome o (λ z. (45 ∷ decimal n ≡ signed_decimal z) × FitsFrameLength z))
    (λ fits.
    let parts = and_parts (nat_lt 0 n) (nat_le n (2 ^ 31)) fits in
    let some = ltb-true 0 n parts.0 in
    let most = leb-true n (2 ^ 31) parts.1 in
    let whole : n ≡ suc (n - 1) = omega arith in
    (ap (λ (m : ℕ). 45 ∷ decimal m) whole, (omega (arith, ints), omega (arith, ints))))
    (λ other. tt)

abbrev IsLengthOf : List ℕ → ℤ → Type 0
IsLengthOf w z = (w ≡ signed_decimal z) × FitsFrameLength z

pub length_word-written : (w : List ℕ) → IfSome (length_word w) (IsLengthOf w)
unfolding length_word
length_word-written [] = tt
length_word-written (b ∷ bs) =
    cond_both (b == 45) (place bs >>= as_negative_length) (place (b ∷ bs) >>= as_length) (λ o. IfSome o (IsLengthOf (b ∷ bs)))
    (λ minus.
    in_steps _ (place bs) as_negative_length (place-written bs) (λ n digits.
    IfSome_then (as_negative_length n) (as_negative_length-written n) (λ z h. ((λ i. eqb-true b 45 minus i ∷ digits.0 i) ∙ h.0, h.1))))
    (λ digit.
    in_steps _ (place (b ∷ bs)) as_length (place-written (b ∷ bs)) (λ n digits.
    IfSome_then (as_length n) (as_length-written n) (λ z h. (digits.0 ∙ ap signed_decimal h.0, h.1))))
