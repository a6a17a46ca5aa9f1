-- The operations so far, with those of the nodes to come, are all.
use Rattle.std.proofs.Common.{◌≡◌, ◌++◌, drop}
use Rattle.zn_layout.specs.Changes.{acts_of}
use Rattle.zs_close.specs.Ending.{delete_nodes}
use Rattle.zs_close.proofs.changes.push_nodes.Given as goal

abbrev pub invariant-loop-path : goal.invariant-loop-path
invariant-loop-path l = l.acts ++ acts_of (delete_nodes l.layout (drop l.path-index l.paths)) ≡ l.initial.acts ++ acts_of (delete_nodes l.layout l.paths)
