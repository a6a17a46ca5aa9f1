use Rattle.std.proofs.Common.{◌≡◌, ◌∷◌, ◌++◌, length, take}
use Rattle.std.specs.List.{flat_map}
use Rattle.zk_jute.specs.JuteWriting.{count_bytes}
use Rattle.zk_jute.specs.JuteWriting.{string_bytes}
use Rattle.zn_layout.specs.Records.{layout_byte}
use Rattle.zn_layout.proofs.write.write_session.Given as goal

abbrev pub invariant-loop-path : goal.invariant-loop-path
invariant-loop-path l = l.value ≡ (layout_byte l.session.layout ∷ count_bytes (length l.session.paths)) ++ flat_map string_bytes (take l.path-index l.session.paths)
