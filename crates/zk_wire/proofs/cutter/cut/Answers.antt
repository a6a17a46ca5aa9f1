use Rattle.zk_jute.proofs.Framing.{goes_on}
use Rattle.zk_wire.proofs.cutter.cut.Goals as goal

pub loop-frame-preserved : goal.loop-frame-preserved
loop-frame-preserved c = rw (c.in_ok-push.ensures.items, c.from_vec-frame.ensures, c.in_ok-from_slice.ensures.items) (goes_on c.args.bytes.now c.loop-frame.frames.items c.loop-frame.rest.now c.in-Some.frame.now c.in-Some.after.now c.loop-frame.invariant c.in-Some.ensures)
