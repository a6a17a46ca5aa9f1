use Rattle.std.proofs.Common.{◌≡◌, ◌++◌, length, take}
use Rattle.std.specs.List.{flat_map}
use Rattle.zk_jute.specs.JuteWriting.{count_bytes, acl_bytes}
use Rattle.zk_wire.proofs.writer.WriterFieldSink.acls.Given as goal

abbrev pub invariant-loop-entry : goal.invariant-loop-entry
invariant-loop-entry l = l.self ≡ l.fn.self ++ (count_bytes (length l.entries) ++ flat_map acl_bytes (take l.entry-index l.entries))
