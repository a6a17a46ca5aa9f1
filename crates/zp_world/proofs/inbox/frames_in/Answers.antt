use Rattle.zp_world.proofs.Framing.{stands-bad, stands-cut}
use Rattle.zp_world.proofs.inbox.frames_in.Goals as goal

pub returns-in-Ok : goal.returns-in-Ok
returns-in-Ok c = stands-cut c.args.stream.now c.in-Ok.frames.items c.args.cutter.now c.take.new.self c.requires c.in-Ok.ensures.takes

pub returns-in-Err-BadLength : goal.returns-in-Err-BadLength
returns-in-Err-BadLength c =
    stands-bad c.args.stream.now c.new.result.items c.in-Err-BadLength.field-0-0 c.in-Err-BadLength.field-0-1 c.args.cutter.now c.take.new.self c.requires c.new.ensures.items (rw c.in-Err-BadLength.field-0-is at c.in-Err-BadLength.ensures.takes)
