use Rattle.std.proofs.Common.{◌≡◌, ◌++◌, drop}
use Rattle.std.specs.Prelude.{flat_map}
use Rattle.zk_model.specs.Single.{removal}
use Rattle.zk_history.proofs.ended.removals.Given as goal

abbrev pub invariant-loop-path : goal.invariant-loop-path
invariant-loop-path l = l.triggers.items ++ flat_map removal (drop l.path-index l.paths) ≡ flat_map removal l.paths
