-- The bytes that are left, and those of the keys so far, are all that there is room for.
use Rattle.std.proofs.Common.{◌≡◌, ◌+◌, drop, sum_by}
use Rattle.zn_view.specs.Keeping.{max_kept_view, seen_size}
use Rattle.zn_view.proofs.keep.is_small.Given as goal

abbrev pub invariant-loop-seen : goal.invariant-loop-seen
invariant-loop-seen l = l.room + sum_by seen_size l.keys ≡ max_kept_view + sum_by seen_size (drop l.seen-index l.keys)
