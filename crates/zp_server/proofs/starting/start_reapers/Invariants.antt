use Rattle.std.proofs.Common.{◌≡◌}
use Rattle.zp_server.proofs.starting.start_reapers.Given as goal

abbrev pub invariant-reapers : goal.invariant-reapers
invariant-reapers g l = g.P.Spawner.refusals l.spawner ≡ g.P.Spawner.refusals l.fn.spawner
