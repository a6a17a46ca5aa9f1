use Rattle.std.proofs.Common.{◌≡◌, ◌+◌, length, take}
use Rattle.std.specs.List.{flat_map}
use Rattle.zk_jute.specs.JuteWriting.{acl_bytes}
use Rattle.zk_wire.specs.Putting.{counted}
use Rattle.zk_wire.proofs.sink.SizeFieldSink.acls.Given as goal

abbrev pub invariant-loop-entry : goal.invariant-loop-entry
invariant-loop-entry l = l.self ≡ counted (l.fn.self + (4 + length (flat_map acl_bytes (take l.entry-index l.entries))))
