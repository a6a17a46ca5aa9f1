-- The node after the changes so far, each of which adds one to its version at most.
use Rattle.std.proofs.Common.{◌≡◌, ◌+◌, take}
use Rattle.zn_view.specs.Leaving.{node_after}
use Rattle.zn_multi.proofs.Bounds.{IsNodeWithin}
use Rattle.zn_multi.proofs.leaving.node_after.Given as goal

abbrev pub invariant-loop-change : goal.invariant-loop-change
invariant-loop-change l = (l.node ≡ node_after (take l.change-index l.changes) l.path l.fn.node) × IsNodeWithin (2147483647 + l.change-index) l.node
