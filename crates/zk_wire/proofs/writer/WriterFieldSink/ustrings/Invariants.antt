use Rattle.std.proofs.Common.{◌≡◌, ◌++◌, length, take}
use Rattle.std.specs.List.{flat_map}
use Rattle.zk_jute.specs.JuteWriting.{count_bytes, string_bytes}
use Rattle.zk_wire.proofs.writer.WriterFieldSink.ustrings.Given as goal

abbrev pub invariant-loop-text : goal.invariant-loop-text
invariant-loop-text l = l.self ≡ l.fn.self ++ (count_bytes (length l.texts) ++ flat_map string_bytes (take l.text-index l.texts))
