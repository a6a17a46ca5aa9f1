-- What settles the rest settles all of it.
use Rattle.std.proofs.Common.{◌-◌}
use Rattle.zp_script.specs.Happens.{Settles}
use Rattle.zp_script.specs.Worlds.{World}
use Rattle.zp_world.proofs.world.World.settle.Given as goal

abbrev pub invariant-loop-done : goal.invariant-loop-done
invariant-loop-done l = (w' : World) → Settles (l.bound - l._done) l.connection l.self w' → Settles l.bound l.connection l.fn.self w'
