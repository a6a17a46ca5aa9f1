-- The parents so far, with those of the nodes to come, are all.
use Rattle.std.proofs.Common.{◌≡◌, drop}
use Rattle.zs_close.specs.Ending.{parents_from, parents as parents_once}
use Rattle.zs_close.proofs.parents.parents.Given as goal

abbrev pub invariant-loop-path : goal.invariant-loop-path
invariant-loop-path l = parents_from l.found (drop l.path-index l.paths) ≡ parents_once l.paths
