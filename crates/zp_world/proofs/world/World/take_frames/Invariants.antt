-- What comes of the frames that are left comes of all.
use Rattle.std.proofs.Common.{length}
use Rattle.std.specs.Vec.Iter.{into_iter_items}
use Rattle.zp_world.proofs.Serving.{AreComing}
use Rattle.zp_world.proofs.world.World.take_frames.Given as goal

abbrev pub invariant-loop-frame : goal.invariant-loop-frame
invariant-loop-frame l = AreComing l.arrival.connection l.arrival.zxid l.initial.self (into_iter_items l.initial.coming) l.self (into_iter_items l.coming)

abbrev pub decreases-loop-frame : goal.decreases-loop-frame
decreases-loop-frame l = length (into_iter_items l.coming)
