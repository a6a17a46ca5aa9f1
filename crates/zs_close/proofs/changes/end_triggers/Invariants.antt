-- The triggers so far, with those of the nodes to come, are all.
use Rattle.std.proofs.Common.{◌≡◌, ◌++◌, drop}
use Rattle.zs_close.specs.Ending.{end_triggers}
use Rattle.zs_close.proofs.changes.end_triggers.Given as goal

abbrev pub invariant-loop-path : goal.invariant-loop-path
invariant-loop-path l = l.triggers ++ end_triggers (drop l.path-index l.paths) ≡ end_triggers l.paths
