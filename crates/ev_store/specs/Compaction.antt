-- Compaction (etcd API reference, `CompactionRequest`): revisions below the given one can no longer be named.
use Rattle.std.specs.Prelude.{ℤ, if◌then◌else◌, Option, Some, None}
use Rattle.std.specs.Int.{int_max}
use Rattle.ev_types.specs.Denials.{is_future}
use Rattle.ev_types.specs.Store.{Store}

-- the floor rises to the revision, and never falls; None where the store has no such revision yet
unfoldable pub compact : Store → ℤ → Option Store
compact s r = if is_future s r then None else Some (record s { floor = int_max r s.floor })
