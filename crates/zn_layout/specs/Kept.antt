-- Entries of updates that are kept for watches.
use Rattle.std.specs.Prelude.{ℕ}

-- how many of the newest entries are kept, by the hub of a server and by a world
abbrev pub max_kept : ℕ
max_kept = 4096
