-- What a session is tested by: the revision at which the record of its life was put.
use Rattle.std.specs.Prelude.{◌≡◌, ℤ, Option, Some, None}
use Rattle.ev_types.specs.declared.answer.Kv.{Kv}

-- the view saw the record of a session's life, put at this revision; or None, where it saw that there is none
abbrev pub IsAttachedAt : Option (Option Kv) → Option ℤ → Type 0
IsAttachedAt saw None = saw ≡ Some None
IsAttachedAt saw (Some n) = (kv : Kv) × (saw ≡ Some (Some kv)) × (kv.mod_revision ≡ n)
