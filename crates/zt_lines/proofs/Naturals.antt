-- Numbers that are too great.
use Rattle.std.proofs.Common.{◌≡◌, ℕ, ◌+◌, ◌*◌, ◌<◌, List, [], ◌∷◌, length, drop, get_or, true, false, if◌then◌else◌, Option, Some, None, refl, ap, sym, ◌∙◌}
use Rattle.std.proofs.lemmas.List.{drop_more}
use Rattle.zt_text.specs.Scripts.{decimal_digit, digits_value, is_zero_led, not_above, ◌>>=◌}
use Rattle.zt_text.proofs.Digits.{digits_value-above}
use Rattle.zt_lines.specs.Words.{natural}

natural-none : (most : ℕ) (word : List ℕ) → (digits_value 10 decimal_digit 0 word >>= not_above most) ≡ None → natural most word ≡ None
unfolding natural
natural-none most [] none = refl
natural-none most (b ∷ bs) none =
    let none_of_it : Option ℕ = None in
    rw none (elim (is_zero_led (b ∷ bs)) as (λ t. (if t then none_of_it else none_of_it) ≡ none_of_it) [ true ↦ refl | false ↦ refl ])

-- a word whose first digits are too great a number
pub natural-above : (most : ℕ) (word : List ℕ) (value at digit : ℕ) → digits_value 10 decimal_digit value (drop at word) ≡ digits_value 10 decimal_digit 0 word → at < length word →
    decimal_digit (get_or word at 0) ≡ Some digit → most < value * 10 + digit → natural most word ≡ None
natural-above most word value at digit told within read above =
    let here = drop_more word at 0 within in
    let next : digits_value 10 decimal_digit 0 word ≡ digits_value 10 decimal_digit (value * 10 + digit) (drop (at + 1) word) =
    sym told ∙ rw (here, read) refl in
    natural-none most word (ap (λ (o : Option ℕ). o >>= not_above most) next ∙ digits_value-above most (value * 10 + digit) (drop (at + 1) word) above)
