use Rattle.std.proofs.Common.{◌≡◌, take}
use Rattle.std.specs.Prelude.{sum_by}
use Rattle.zk_model.specs.Multi.{data_len}
use Rattle.zk_model.specs.Loads.{within}
use Rattle.zk_model.proofs.load.data_load.Given as goal

abbrev pub invariant-loop-part : goal.invariant-loop-part
invariant-loop-part l = l.sum ≡ within (sum_by data_len (take l.part-index l.parts))
