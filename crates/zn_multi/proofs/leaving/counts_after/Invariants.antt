-- The counts after the changes so far, each of which adds one at most.
use Rattle.std.proofs.Common.{◌≡◌, ◌+◌, take}
use Rattle.zn_view.specs.Leaving.{counts_after}
use Rattle.zn_multi.proofs.Bounds.{AreCountsWithin}
use Rattle.zn_multi.proofs.leaving.counts_after.Given as goal

abbrev pub invariant-loop-change : goal.invariant-loop-change
invariant-loop-change l = (l.counts ≡ counts_after (take l.change-index l.changes) l.path l.fn.counts) × AreCountsWithin (1073741823 + l.change-index) l.counts
