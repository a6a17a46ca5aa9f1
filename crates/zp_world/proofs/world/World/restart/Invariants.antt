-- Those that are still to end.
use Rattle.std.specs.Vec.Iter.{into_iter_items}
use Rattle.zp_world.proofs.Restarting.{IsStopping}
use Rattle.zp_world.proofs.world.World.restart.Given as goal

abbrev pub invariant-loop-number : goal.invariant-loop-number
invariant-loop-number l = IsStopping l.proxy l.fn.self l.self (into_iter_items l.number-iterator)
