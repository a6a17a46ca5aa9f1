-- What is done so far, and what is still to be done.
use Rattle.std.specs.Vec.Iter.{into_iter_items}
use Rattle.zp_world.proofs.Acting.{IsActing}
use Rattle.zp_world.proofs.world.World.act_all.Given as goal

abbrev pub invariant-loop-action : goal.invariant-loop-action
invariant-loop-action l =
    IsActing l.arrival.connection l.kind l.first l.arrival.zxid (into_iter_items l.fn.after) l.core l.fn.self l.fn.flight l.fn.out.items l.self l.flight (into_iter_items l.action-iterator) (into_iter_items l.after)
