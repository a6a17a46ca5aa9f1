-- Loads of a multi.
use Rattle.std.specs.Prelude.{ℕ, nat_le, if◌then◌else◌, Option, Some, None}
use Rattle.zk_model.specs.Limits.{max_load}

-- a load, or None where it is above the most
abbrev pub within : ℕ → Option ℕ
within n = if nat_le n max_load then Some n else None
