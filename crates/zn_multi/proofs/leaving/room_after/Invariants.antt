-- How many nodes more after the changes so far, each of which adds one at most.
use Rattle.std.proofs.Common.{◌≡◌, ◌+◌, ◌≤◌, take}
use Rattle.zn_view.specs.Leaving.{room_after}
use Rattle.zn_multi.proofs.leaving.room_after.Given as goal

abbrev pub invariant-loop-change : goal.invariant-loop-change
invariant-loop-change l = (l.room ≡ room_after (take l.change-index l.changes) l.session l.fn.room) × (l.room ≤ 2147483648 + l.change-index)
