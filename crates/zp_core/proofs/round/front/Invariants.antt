-- The wants that were taken and those that are left are all.
use Rattle.std.proofs.Common.{◌≡◌, ◌≤◌, ◌++◌, ◌-◌, length}
use Rattle.zp_step.specs.Looking.{max_ranges}
use Rattle.zp_core.proofs.round.front.Given as goal

abbrev pub invariant-front : goal.invariant-front
invariant-front l = (l.first ++ l.wants.items ≡ l.initial.wants.items) × (length l.first ≤ max_ranges)

abbrev pub decreases-front : goal.decreases-front
decreases-front l = max_ranges - length l.first
