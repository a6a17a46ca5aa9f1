use Rattle.std.proofs.Common.{◌≡◌, ◌+◌, drop}
use Rattle.zk_transcript.specs.History.{first_place}
use Rattle.zk_least.specs.LeastMoments.{lapse_shown}
use Rattle.zk_judge.proofs.places.lapsed_from.Given as goal

abbrev pub invariant-loop-at : goal.invariant-loop-at
invariant-loop-at l = first_place (lapse_shown l.session) l.moment (drop l.moment l.lines) ≡ first_place (lapse_shown l.session) (l.moment + l.at) (drop l.at (drop l.moment l.lines))
