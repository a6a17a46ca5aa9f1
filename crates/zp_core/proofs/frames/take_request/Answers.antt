-- A request about watches is answered by what is armed; any other is answered as where nothing is armed.
use Rattle.std.proofs.Common.{ℤ, false, true, rules, w32, sym, subst, IfOk}
use Rattle.std.specs.Prelude.{Option}
use Rattle.std.proofs.lemmas.Int.{to_z-of_z}
use Rattle.zx_base.specs.Maps.{Bytes}
use Rattle.zk_jute.specs.Requests.{Asks}
use Rattle.zk_model.specs.declared.request.Request.{Request}
use Rattle.zk_model.specs.Watches.{no_watches}
use Rattle.zk_service.specs.Answers.{Told, plain_request, told_of_watches}
use Rattle.zp_step.specs.Replies.{Is}
use Rattle.zp_step.specs.Taking.{TakesReadable, plainly}
use Rattle.zp_core.specs.Meanings.{Leads, ready, told_with}
use Rattle.zp_core.proofs.Watching.{other-watches, plain-with}
use Rattle.zp_core.proofs.frames.take_request.Goals as goal

pub returns-in-CheckWatches : goal.returns-in-CheckWatches
unfolding plain_request
returns-in-CheckWatches c =
    let client = ready c.args.client.now in
    let w = c.args.client.now.watches in
    let xid = to_z-of_z w32 c.args.xid c.ranges.xid in
    let kind = to_z-of_z w32 c.in-CheckWatches.kind (search rules) in
    subst (λ (r : Request). IfOk c.answer_watcher.result (Leads (λ d out. TakesReadable client c.args.now d out (Asks c.args.xid r) (plain_request w r)) c.answer_watcher.new.client)) (sym c.in-CheckWatches.is)
    (subst (λ (z : ℤ × Bytes × ℤ). IfOk c.answer_watcher.result (Leads (Is (plainly client z.0 (told_of_watches w z.1 z.2 false))) c.answer_watcher.new.client)) (λ i. (xid i, c.as_slice.ensures i, kind i)) c.answer_watcher.ensures)

pub returns-in-RemoveWatches : goal.returns-in-RemoveWatches
unfolding plain_request
returns-in-RemoveWatches c =
    let client = ready c.args.client.now in
    let w = c.args.client.now.watches in
    let xid = to_z-of_z w32 c.args.xid c.ranges.xid in
    let kind = to_z-of_z w32 c.in-RemoveWatches.kind (search rules) in
    subst (λ (r : Request). IfOk c.answer_watcher-in-RemoveWatches.result (Leads (λ d out. TakesReadable client c.args.now d out (Asks c.args.xid r) (plain_request w r)) c.answer_watcher-in-RemoveWatches.new.client))
    (sym c.in-RemoveWatches.is)
    (subst (λ (z : ℤ × Bytes × ℤ). IfOk c.answer_watcher-in-RemoveWatches.result (Leads (Is (plainly client z.0 (told_of_watches w z.1 z.2 true))) c.answer_watcher-in-RemoveWatches.new.client))
    (λ i. (xid i, c.as_slice-in-RemoveWatches.ensures i, kind i)) c.answer_watcher-in-RemoveWatches.ensures)

pub returns-in_default : goal.returns-in_default
returns-in_default c =
    let xid = to_z-of_z w32 c.args.xid c.ranges.xid in
    let w = c.args.client.now.watches in
    let r = c.args.request in
    let other = other-watches c.args.xid r c.in_default.not-CheckWatches c.in_default.not-RemoveWatches in
    subst (λ (o : Option Told). IfOk c.take_other.result (Leads (λ d out. TakesReadable (ready c.args.client.now) c.args.now d out (Asks c.args.xid r) o) c.take_other.new.client)) (sym (plain-with w c.args.xid r other))
    (subst (λ (z : ℤ). IfOk c.take_other.result (Leads (λ d out. TakesReadable (ready c.args.client.now) c.args.now d out (Asks z r) (told_with w (plain_request no_watches r))) c.take_other.new.client)) xid c.take_other.ensures)
