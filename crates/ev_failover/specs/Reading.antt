-- Asks that only read: carried out twice, it is as if they were carried out once (etcd API reference, "KV", "Lease": a range and a
-- keepalive add no revision).
use Rattle.std.specs.Prelude.{Bool, true, false, ◌&&◌, List}
use Rattle.std.specs.List.{list_all}
use Rattle.ev_types.specs.declared.ask.Act.{Act}
use Rattle.ev_types.specs.declared.ask.Act.TheVariants as act
use Rattle.ev_types.specs.declared.ask.Ask.{Ask}
use Rattle.ev_types.specs.declared.ask.Ask.TheVariants as ask

-- the operation is a range
abbrev pub is_read : Act → Bool
is_read (act.Range q) = true
is_read (act.Put k v lease) = false
is_read (act.Delete k) = false

abbrev pub are_reads : List Act → Bool
are_reads acts = list_all is_read acts

-- a range, a keepalive, or a transaction whose lists put and delete nothing
abbrev pub is_reading : Ask → Bool
is_reading (ask.Txn t) = are_reads t.success && are_reads t.failure
is_reading (ask.Range q) = true
is_reading (ask.Grant id ttl) = false
is_reading (ask.Alive id) = true
