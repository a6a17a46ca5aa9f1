-- The update was made, or a guard failed.
use Rattle.std.proofs.Common.{ℤ, false, subst, w64}
use Rattle.std.specs.Prelude.{IfOk}
use Rattle.std.proofs.lemmas.Int.{to_z-of_z}
use Rattle.std.proofs.lemmas.Result.{IfOk-weaker}
use Rattle.zp_step.specs.Plans.{Committed, WasMade}
use Rattle.zp_core.specs.Meanings.{Leads, ready}
use Rattle.zp_core.proofs.commits.commit_at.Goals as goal

pub returns-then-succeeded : goal.returns-then-succeeded
returns-then-succeeded c =
    let core = ready c.args.client.now in
    let t = c.args.commit.value.task.value in
    let plan = c.args.commit.value.plan in
    let made = subst (λ (z : ℤ). IfOk c.done.result (Leads (λ d out. WasMade core t.xid t.request t.view plan d out z c.args.parts.now) c.done.new.client)) (to_z-of_z w64 _ c.ranges.revision) c.done.ensures in
    IfOk-weaker c.done.result (Leads (λ d out. WasMade core t.xid t.request t.view plan d out c.args.revision c.args.parts.now) c.done.new.client)
    (Leads (λ d out. Committed core t.xid t.request t.view plan c.args.now d out c.args.revision c.args.succeeded c.args.parts.now) c.done.new.client)
    (λ m i. rw c.if-succeeded.true i) made

pub returns : goal.returns
returns c =
    let core = ready c.args.client.now in
    let t = c.args.commit.value.task.value in
    let plan = c.args.commit.value.plan in
    let failed = subst (λ (z : ℤ). IfOk c.look_again.result (Leads (λ d out. Committed core t.xid t.request t.view plan c.args.now d out z false c.args.parts.now) c.look_again.new.client)) (to_z-of_z w64 _ c.ranges.revision) c.look_again.ensures in
    IfOk-weaker c.look_again.result (Leads (λ d out. Committed core t.xid t.request t.view plan c.args.now d out c.args.revision false c.args.parts.now) c.look_again.new.client)
    (Leads (λ d out. Committed core t.xid t.request t.view plan c.args.now d out c.args.revision c.args.succeeded c.args.parts.now) c.look_again.new.client)
    (λ m i. rw c.if-succeeded.false i) failed
