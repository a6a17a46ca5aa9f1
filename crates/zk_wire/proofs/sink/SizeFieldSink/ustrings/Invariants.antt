use Rattle.std.proofs.Common.{◌≡◌, ◌+◌, length, take}
use Rattle.std.specs.List.{flat_map}
use Rattle.zk_jute.specs.JuteWriting.{string_bytes}
use Rattle.zk_wire.specs.Putting.{counted}
use Rattle.zk_wire.proofs.sink.SizeFieldSink.ustrings.Given as goal

abbrev pub invariant-loop-text : goal.invariant-loop-text
invariant-loop-text l = l.self ≡ counted (l.fn.self + (4 + length (flat_map string_bytes (take l.text-index l.texts))))
