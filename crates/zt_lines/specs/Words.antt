-- What the words of a transcript's line say.
use Rattle.std.specs.Prelude.{ℕ, ℤ, pos, negsuc, ◌-◌, ◌^◌, ◌&&◌, List, [], ◌∷◌, nat_lt, nat_le, ◌==◌, Option, Some, None, if◌then◌else◌}
use Rattle.zt_text.specs.Scripts.{decimal_digit, digits_value, is_zero_led, not_above, ◌>>=◌}

-- the greatest place in a stream, time of the clock or index of a frame
abbrev pub max_place : ℕ
max_place = 18446744073709551615

-- a decimal number without sign or leading zero, up to `most`
unfoldable pub natural : ℕ → List ℕ → Option ℕ
natural most [] = None
natural most (b ∷ bs) = if is_zero_led (b ∷ bs) then None else (digits_value 10 decimal_digit 0 (b ∷ bs) >>= not_above most)

-- places in a stream, times of the clock and indices of frames
abbrev pub place : List ℕ → Option ℕ
place w = natural max_place w

-- zxids, revisions and counts of updates: from 0 to 2^63 - 1
abbrev pub as_long : ℕ → Option ℤ
as_long n = if nat_lt n (2 ^ 63) then Some (pos n) else None

unfoldable pub long : List ℕ → Option ℤ
long w = place w >>= as_long

-- lengths as a client sends them: from -2^31 to 2^31 - 1, with `-` (45) in front where they are negative
abbrev pub as_length : ℕ → Option ℤ
as_length n = if nat_lt n (2 ^ 31) then Some (pos n) else None

abbrev pub as_negative_length : ℕ → Option ℤ
as_negative_length n = if nat_lt 0 n && nat_le n (2 ^ 31) then Some (negsuc (n - 1)) else None

unfoldable pub length_word : List ℕ → Option ℤ
length_word [] = None
length_word (b ∷ bs) = if b == 45 then (place bs >>= as_negative_length) else (place (b ∷ bs) >>= as_length)
