use Rattle.std.proofs.Common.{◌≡◌, drop}
use Rattle.zk_model.specs.Paths.{names}
use Rattle.zk_model.specs.PathFaults.{bad_name}
use Rattle.zk_model.proofs.PathScans.{name_scan}
use Rattle.zk_model.proofs.path.bad_name.Given as goal

abbrev pub invariant-loop-place : goal.invariant-loop-place
invariant-loop-place l = bad_name 1 (names l.path) ≡ name_scan l.place (drop l.place l.path)
