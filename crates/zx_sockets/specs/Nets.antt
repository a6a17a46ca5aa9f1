-- How long a worker waits between its dials.
use Rattle.std.specs.Prelude.{ℕ, min, [], ◌∷◌, slice_index}

-- The pause in milliseconds before a dial that is the next after so many in a row, each within 10 seconds of the one before.
abbrev pub pause_of : ℕ → ℕ
pause_of row = slice_index (0 ∷ 100 ∷ 200 ∷ 400 ∷ 800 ∷ 1600 ∷ 3200 ∷ 6400 ∷ []) (min row 7)
