-- What the update leaves is kept, and then its reply is sent, or waits.
use Rattle.std.proofs.Common.{ℤ, ap, ◌∙◌, subst, to_z, of_z, w64}
use Rattle.std.proofs.lemmas.Int.{to_z-of_z}
use Rattle.std.proofs.lemmas.Result.{IfOk-weaker}
use Rattle.zp_step.specs.Kept.{Leaves}
use Rattle.zp_step.specs.Plans.{WasMade, finishes}
use Rattle.zp_step.specs.Replies.{Is, waits}
use Rattle.zp_step.specs.Stages as step
use Rattle.zp_core.specs.Meanings.{Leads, core_of, pending_of, ready, stage_of}
use Rattle.zp_core.specs.declared.stage.Commit.{Commit}
use Rattle.zp_core.proofs.commits.done.Goals as goal

pub returns : goal.returns
returns c =
    let core = ready c.args.client.now in
    let b = c.args.commit.value in
    let t = b.task.value in
    let parts = c.args.parts.now in
    let kept = ready c.leave.new.client in
    let left = subst (λ (x : Commit). Leaves core x.task.value.request x.task.value.view x.plan (to_z w64 (of_z w64 c.args.revision)) parts kept) c.deref.ensures c.in_ok-leave.ensures in
    let leaves = subst (λ (z : ℤ). Leaves core t.request t.view b.plan z parts kept) (to_z-of_z w64 _ c.ranges.revision) left in
    let made = c.in_ok-pending.ensures ∙ ap (λ (z : ℤ). finishes t.xid t.request b.plan z parts) (to_z-of_z w64 _ c.ranges.revision) in
    IfOk-weaker c.reply_in_turn.result (Leads (Is (waits kept (pending_of c.in_ok-pending.pending))) c.reply_in_turn.new.client)
    (Leads (λ d out. WasMade core t.xid t.request t.view b.plan d out c.args.revision parts) c.reply_in_turn.new.client)
    (λ m i. record { kept = kept; leaves = leaves; is = subst (λ (p : step.Pending). Is (waits kept p) (core_of c.reply_in_turn.new.client (stage_of m.stage)) m.actions) made i })
    c.reply_in_turn.ensures
