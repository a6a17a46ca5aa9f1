-- What a start of a job says of the one who starts it.
use Rattle.std.specs.Prelude.{ℕ, Bool, true, false, Result, Ok, Err}
use Rattle.zx_outside.specs.Counts.{one_more}

-- The count of refusals after a start: a job that is handed back counts as one, and nothing else is counted.
abbrev pub refusals_after : {A E : Type 0} → Result A E → ℕ → ℕ
refusals_after (Ok started) refusals = refusals
refusals_after (Err job) refusals = one_more refusals

-- The count after the question whether the next start is refused: a yes counts as one.
abbrev pub refusals_asked : Bool → ℕ → ℕ
refusals_asked true refusals = one_more refusals
refusals_asked false refusals = refusals
