-- What settles the rest settles all.
use Rattle.std.proofs.Common.{◌+◌, ◌-◌}
use Rattle.zp_script.specs.Worlds.{World}
use Rattle.zp_stress.specs.Clients.{settlings}
use Rattle.zp_stress.specs.Passing.{PassesAll}
use Rattle.zp_stress.proofs.client.settle_all.Given as goal

abbrev pub invariant-loop-number : goal.invariant-loop-number
invariant-loop-number l = (end : World) → PassesAll l.world (settlings (l.connections - l.number) (l.number + 1)) end → PassesAll l.fn.world (settlings l.connections 1) end
