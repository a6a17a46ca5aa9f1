use Rattle.std.proofs.Common.{◌≡◌, ◌-◌, length, take}
use Rattle.zk_transcript.specs.Walks.{fired_above}
use Rattle.zk_judge.specs.Seen.{fired_of}
use Rattle.zk_judge.proofs.firing.fire_above.Given as goal

abbrev pub invariant-updates : goal.invariant-updates
invariant-updates l = fired_of l.fired ≡ fired_above (take l.at l.past) l.fn.walker.zxid l.fn.walker.watches

abbrev pub decreases-updates : goal.decreases-updates
decreases-updates l = length l.past - l.at
