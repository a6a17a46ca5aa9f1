use Rattle.std.proofs.Common.{◌≡◌}
use Rattle.zs_reaper.specs.Working.{OnlyDials}
use Rattle.zs_reaper.proofs.working.reap.Given as goal

abbrev pub invariant-turns : goal.invariant-turns
invariant-turns g l =
    (goal.iterator-turns g).can_next l.iterator' × (goal.iterator-turns g).is_finite l.iterator' × (g.Q.StopWord.set_readings l.stop ≡ g.Q.StopWord.set_readings l.fn.stop) × OnlyDials (g.N.Net.counts l.fn.net) (g.N.Net.counts l.net)
