-- The record was put by another attachment.
use Rattle.std.proofs.Common.{ℤ, ap, of_z, subst, w64}
use Rattle.std.specs.Prelude.{IfOk}
use Rattle.std.proofs.lemmas.Int.{to_z-of_z}
use Rattle.std.proofs.lemmas.Result.{IfOk-weaker}
use Rattle.zk_jute.specs.Requests.{read_request}
use Rattle.zk_service.specs.Answers.{xid_of}
use Rattle.zp_step.specs.Looking.{moved}
use Rattle.zp_step.specs.Replies.{Is, waits}
use Rattle.zp_core.specs.Meanings.{Leads, core_of, ready, stage_of}
use Rattle.zp_core.specs.Handling.{ByPut}
use Rattle.zp_core.proofs.Lives.{by-other}
use Rattle.zp_core.proofs.keepalives.take_or_refuse.Goals as goal

pub returns-then-found-client : goal.returns-then-found-client
returns-then-found-client c =
    let core = ready c.args.client.now in
    IfOk-weaker c.refuse_moved.result (Leads (Is (waits core (moved c.args.client.now.who c.args.view.now c.args.found (xid_of (read_request c.args.frame.now))))) c.refuse_moved.new.client)
    (Leads (λ d out. ByPut core c.args.frame.now c.args.view.now c.args.now d out c.args.found) c.refuse_moved.new.client)
    (λ m h. by-other core c.args.frame.now c.args.view.now c.args.now (core_of c.refuse_moved.new.client (stage_of m.stage)) m.actions c.args.found (λ e. c.if-found-client.true (ap (of_z w64) e)) h)
    (subst (λ (f : ℤ). IfOk c.refuse_moved.result (Leads (Is (waits core (moved c.args.client.now.who c.args.view.now f (xid_of (read_request c.args.frame.now))))) c.refuse_moved.new.client)) (to_z-of_z w64 _ c.ranges.found) c.refuse_moved.ensures)
