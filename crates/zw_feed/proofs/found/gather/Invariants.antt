use Rattle.std.proofs.Common.{◌-◌, length}
use Rattle.zw_feed.specs.Gathering.{IsSoFar}
use Rattle.zw_feed.proofs.found.gather.Given as goal

abbrev pub invariant-puts : goal.invariant-puts
invariant-puts l = IsSoFar l.kvs l.at l.fn.found.first l.found

abbrev pub decreases-puts : goal.decreases-puts
decreases-puts l = length l.kvs - l.at
