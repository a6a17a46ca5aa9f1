-- What was read again is a view, on which the request goes on.
use Rattle.std.proofs.Common.{◌≡◌, ap, ◌∙◌, false, inr, rules, subst}
use Rattle.std.proofs.lemmas.Result.{IfOk-weaker}
use Rattle.zn_view.specs.Adding.{AreRecords}
use Rattle.zn_view.specs.Seen.{View}
use Rattle.zs_session.specs.Answering.{viewed}
use Rattle.zp_step.specs.Looking.{Looks}
use Rattle.zp_core.specs.Handling.{CommitIsTried}
use Rattle.zp_core.specs.Meanings.{Leads, core_of, ready, stage_of}
use Rattle.zp_core.specs.declared.stage.Task.{Task}
use Rattle.zp_core.proofs.commits.look_again.Goals as goal

pub returns-in-Ok : goal.returns-in-Ok
returns-in-Ok c =
    let core = ready c.args.client.now in
    let m = c.args.commit.value in
    let t = m.task.value in
    let x = c.viewed_anew.result.value in
    let parts = c.args.parts.now in
    let new = c.look-in-Ok.new.client in
    let view : c.in-Ok.view ≡ viewed c.args.revision m.plan.again parts = search rules in
    let records : AreRecords m.plan.again parts = search rules in
    let after : x ≡ record t { view = viewed c.args.revision m.plan.again parts } = c.viewed_anew.ensures ∙ ap (λ (v : View). record t { view = v }) view in
    IfOk-weaker c.look-in-Ok.result (Leads (Looks core x.xid x.request x.view c.args.now) new) (Leads (λ d out. CommitIsTried core m c.args.now d out c.args.revision false parts) new)
    (λ done h. inr (records, subst (λ (y : Task). Looks core y.xid y.request y.view c.args.now (core_of new (stage_of done.stage)) done.actions) after h)) c.look-in-Ok.ensures
