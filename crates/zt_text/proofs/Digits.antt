-- Laws of the digits of a word, from the first on.
use Rattle.std.proofs.Common.{◌≡◌, ℕ, ◌+◌, ◌*◌, ◌%◌, ◌^◌, ◌<◌, ◌≤◌, List, [], ◌∷◌, ◌++◌, length, take, drop, get_or, true, false, if◌then◌else◌, Option, Some, None, option_map, set, refl, ap, sym, ◌∙◌, arith}
use Rattle.std.specs.Prelude.{option_and_then}
use Rattle.std.proofs.lemmas.List.{append-nil, append_assoc, drop_all, drop_more, take_all, take_more_set}
use Rattle.std.proofs.lemmas.Grind.{common_steps}
use Rattle.std.proofs.Math.Nat.{pow-le-pow_right}
use Rattle.zt_text.specs.Scripts.{decimal_digit, digits_value, hex_byte, hex_value, hex_pairs, is_zero_led, max_number, not_above, number, ◌>>=◌}

-- a number that is too great stays so
pub digits_value-above : (most n : ℕ) (bs : List ℕ) → most < n → (digits_value 10 decimal_digit n bs >>= not_above most) ≡ None
digits_value-above most n [] above = grind (arith, common_steps)
digits_value-above most n (b ∷ bs) above =
    elim (decimal_digit b) as (λ o. ((o >>= (λ (d : ℕ). digits_value 10 decimal_digit (n * 10 + d) bs)) >>= not_above most) ≡ None) [
      | None ↦ refl
      | Some d ↦ digits_value-above most (n * 10 + d) bs (omega arith)
    ]

number-none : (word : List ℕ) → (digits_value 10 decimal_digit 0 word >>= not_above max_number) ≡ None → number word ≡ None
unfolding number
number-none [] none = refl
number-none (b ∷ bs) none =
    let none_of_it : Option ℕ = None in
    rw none (elim (is_zero_led (b ∷ bs)) as (λ t. (if t then none_of_it else none_of_it) ≡ none_of_it) [ true ↦ refl | false ↦ refl ])

-- a word whose first digits are too great a number
pub number-above : (word : List ℕ) (value at digit : ℕ) → digits_value 10 decimal_digit value (drop at word) ≡ digits_value 10 decimal_digit 0 word → at < length word →
    decimal_digit (get_or word at 0) ≡ Some digit → max_number < value * 10 + digit → number word ≡ None
number-above word value at digit told within read above =
    let here = drop_more word at 0 within in
    let next : digits_value 10 decimal_digit 0 word ≡ digits_value 10 decimal_digit (value * 10 + digit) (drop (at + 1) word) =
    sym told ∙ rw (here, read) refl in
    number-none word (ap (λ (o : Option ℕ). o >>= not_above max_number) next ∙ digits_value-above max_number (value * 10 + digit) (drop (at + 1) word) above)

pub hex_digit-small : (b d : ℕ) → hex_value b ≡ Some d → d < 16
hex_digit-small b d some = grind arith

-- a value of fewer than 16 hex digits leaves room for one more
pub hex_value_fits : (n k : ℕ) → n < 16 ^ k → k < 16 → n * 16 + 15 < 2 ^ 64
hex_value_fits n k below few =
    let most : 16 ^ k ≤ 16 ^ 15 = pow-le-pow_right {n = 16} (omega arith) {i = k} {j = 15} (omega arith) in
    omega arith

-- the pairs from a place on
pub hex_pairs-drop : (word : List ℕ) (at : ℕ) → 2 * at + 1 < length word →
    hex_pairs (drop (2 * at) word) ≡ hex_pairs (get_or word (2 * at) 0 ∷ get_or word (2 * at + 1) 0 ∷ drop (2 * (at + 1)) word)
hex_pairs-drop word at below =
    let first = drop_more word (2 * at) 0 (omega arith) in
    let second = drop_more word (2 * at + 1) 0 below in
    let next : 2 * at + 1 + 1 ≡ 2 * (at + 1) = omega arith in
    ap hex_pairs (rw (first, second, next) refl)

-- two bytes that are no digits
pub hex_pairs-no_byte : (a b : ℕ) (bs : List ℕ) → hex_byte a b ≡ None → hex_pairs (a ∷ b ∷ bs) ≡ None
unfolding hex_pairs
hex_pairs-no_byte a b bs none = rw none refl

-- two digits
pub hex_pairs-byte : (a b byte : ℕ) (bs : List ℕ) → hex_byte a b ≡ Some byte → hex_pairs (a ∷ b ∷ bs) ≡ option_map (λ (rest : List ℕ). byte ∷ rest) (hex_pairs bs)
unfolding hex_pairs
hex_pairs-byte a b byte bs some =
    rw some (elim (hex_pairs bs) as (λ o. option_and_then (λ (bytes : List ℕ). Some (byte ∷ bytes)) o ≡ option_map (λ (rest : List ℕ). byte ∷ rest) o) [ None ↦ refl | Some bytes ↦ refl ])

-- an odd number of digits spells no bytes
pub hex_pairs-odd : (word : List ℕ) → length word % 2 ≡ 1 → hex_pairs word ≡ None
unfolding hex_pairs
hex_pairs-odd [] odd = absurd (omega arith)
hex_pairs-odd (a ∷ []) odd = refl
hex_pairs-odd (a ∷ b ∷ bs) odd =
    let rest = hex_pairs-odd bs (omega arith) in
    rw rest (elim (hex_byte a b) as (λ o. option_and_then (λ (byte : ℕ). option_and_then (λ (bytes : List ℕ). Some (byte ∷ bytes)) None) o ≡ None) [ None ↦ refl | Some byte ↦ refl ])

-- the bytes before a place, in front of those of the digits from there on, are all the bytes
abbrev pub IsFilled : List ℕ → ℕ → List ℕ → Type 0
IsFilled word at out = option_map (λ (rest : List ℕ). take at out ++ rest) (hex_pairs (drop (2 * at) word)) ≡ hex_pairs word

joined : (front : List ℕ) (byte : ℕ) (o : Option (List ℕ)) →
    option_map (λ (rest : List ℕ). (front ++ byte ∷ []) ++ rest) o ≡ option_map (λ (rest : List ℕ). front ++ rest) (option_map (λ (rest : List ℕ). byte ∷ rest) o)
joined front byte None = refl
joined front byte (Some rest) = ap Some (append_assoc front (byte ∷ []) rest)

-- one byte more
pub filled_more : (word : List ℕ) (at : ℕ) (out : List ℕ) (byte : ℕ) → IsFilled word at out → length word ≡ 2 * length out → at < length out →
    hex_byte (get_or word (2 * at) 0) (get_or word (2 * at + 1) 0) ≡ Some byte → IsFilled word (at + 1) (set out at byte)
filled_more word at out byte filled long below some =
    let here = hex_pairs-drop word at (omega arith) ∙ hex_pairs-byte _ _ byte _ some in
    let more = take_more_set out at byte below in
    rw more (joined (take at out) byte (hex_pairs (drop (2 * (at + 1)) word)) ∙ rw here at filled)

-- bytes that are no digits
pub filled_none : (word : List ℕ) (at : ℕ) (out : List ℕ) → IsFilled word at out → length word ≡ 2 * length out → at < length out →
    hex_byte (get_or word (2 * at) 0) (get_or word (2 * at + 1) 0) ≡ None → hex_pairs word ≡ None
filled_none word at out filled long below none =
    let here = hex_pairs-drop word at (omega arith) ∙ hex_pairs-no_byte _ _ _ none in
    sym filled ∙ ap (option_map (λ (rest : List ℕ). take at out ++ rest)) here

-- all bytes
pub filled_all : (word : List ℕ) (at : ℕ) (out : List ℕ) → IsFilled word at out → length word ≡ 2 * length out → length out ≤ at → hex_pairs word ≡ Some out
unfolding hex_pairs
filled_all word at out filled long all =
    let end = ap hex_pairs (drop_all (2 * at) word (omega arith)) in
    sym filled ∙ ap (option_map (λ (rest : List ℕ). take at out ++ rest)) end ∙ ap Some (append-nil (take at out) ∙ take_all at out all)
