-- The ranges so far.
use Rattle.std.proofs.Common.{◌≡◌, take}
use Rattle.zn_view.specs.Asks.{ranges_of}
use Rattle.zn_view.proofs.round.ranges.Given as goal

abbrev pub invariant-loop-want : goal.invariant-loop-want
invariant-loop-want l = l.acts ≡ ranges_of l.revision (take l.want-index l.wants)
