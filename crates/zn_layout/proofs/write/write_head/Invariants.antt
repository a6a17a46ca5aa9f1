use Rattle.std.proofs.Common.{◌≡◌, ◌∷◌, ◌++◌, length, take}
use Rattle.std.specs.List.{flat_map}
use Rattle.zk_jute.specs.JuteWriting.{count_bytes}
use Rattle.zn_layout.specs.Records.{trigger_bytes}
use Rattle.zn_layout.proofs.write.write_head.Given as goal

abbrev pub invariant-loop-trigger : goal.invariant-loop-trigger
invariant-loop-trigger l = l.value ≡ (1 ∷ count_bytes (length l.head.triggers)) ++ flat_map trigger_bytes (take l.trigger-index l.head.triggers)
