-- What opens the rest opens all.
use Rattle.std.proofs.Common.{◌+◌, ◌-◌}
use Rattle.zp_script.specs.Worlds.{World}
use Rattle.zp_stress.specs.Clients.{openings}
use Rattle.zp_stress.specs.Passing.{PassesAll}
use Rattle.zp_stress.proofs.client.open_all.Given as goal

abbrev pub invariant-loop-number : goal.invariant-loop-number
invariant-loop-number l = (end : World) → PassesAll l.world (openings (l.connections - l.number) (l.number + 1)) end → PassesAll l.fn.world (openings l.connections 1) end
