-- The reply is sent with the watches that are left.
use Rattle.std.proofs.Common.{w32, subst, IfOk}
use Rattle.std.proofs.lemmas.Int.{to_z-of_z}
use Rattle.zk_service.specs.Answers.{Told}
use Rattle.zp_step.specs.Replies.{Is}
use Rattle.zp_step.specs.Taking.{plainly}
use Rattle.zp_core.specs.Meanings.{Leads, ready}
use Rattle.zp_core.proofs.frames.answer_watcher.Goals as goal

pub returns : goal.returns
returns c =
    let kind = to_z-of_z w32 c.args.kind c.ranges.kind in
    let xid = to_z-of_z w32 c.args.xid c.ranges.xid in
    subst (λ (t : Told). IfOk c.answer_plainly.result (Leads (Is (plainly (ready c.args.client.now) c.args.xid t)) c.answer_plainly.new.client)) (rw kind at c.in_ok-reply.ensures) (rw xid at c.answer_plainly.ensures)
