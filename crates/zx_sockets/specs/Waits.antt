-- The idle turns of a long wait.
use Rattle.std.specs.Prelude.{◌≡◌, ℕ, ◌-◌, ◌/◌, min, Bool, true, false, zero, suc, Option, Some, None}

-- A wait counts a turn for each 10 milliseconds, at most those of a minute. One of them is answered at once, and these afterwards.
abbrev pub further_turns : ℕ → ℕ
further_turns nanos = min (nanos / 1_000_000 / 10) 6000 - 1

-- One of the turns that are owed is taken, where there is one.
abbrev pub TakesTurn : Option ℕ → Option ℕ → Bool → Type 0
TakesTurn None owed' taken = (owed' ≡ None) × (taken ≡ false)
TakesTurn (Some zero) owed' taken = (owed' ≡ Some 0) × (taken ≡ false)
TakesTurn (Some (suc n)) owed' taken = (owed' ≡ Some n) × (taken ≡ true)
