-- What was found is added, and the view is looked at.
use Rattle.std.proofs.Common.{◌≡◌, inr, rules, subst, true}
use Rattle.std.proofs.lemmas.Result.{IfOk-weaker}
use Rattle.ev_types.specs.declared.answer.Answer.TheVariants as answers
use Rattle.zn_view.specs.Adding.{AreRecords, at_revision}
use Rattle.zn_view.specs.Asks.{with_parts}
use Rattle.zp_step.specs.Looking.{Looks}
use Rattle.zp_step.specs.Plans.{ReadOn}
use Rattle.zp_core.specs.Meanings.{Leads, core_of, ready, stage_of}
use Rattle.zp_core.specs.declared.stage.Task.{Task}
use Rattle.zp_core.proofs.rounds.read_at.Goals as goal

pub returns-in-Ok : goal.returns-in-Ok
returns-in-Ok c =
    let core = ready c.args.client.now in
    let t = c.args.round in
    let x = c.in-Ok.field-0.task.value in
    let parts = c.args.parts.now in
    let new = c.look_by.new.client in
    let records : AreRecords t.asked parts = search rules in
    let after : x ≡ record t { view = with_parts (at_revision t.view c.args.revision) t.asked parts } = search rules in
    IfOk-weaker c.look_by.result (Leads (Looks core x.xid x.request x.view c.args.now) new)
    (Leads (λ d out. ReadOn core t.xid t.request t.view t.asked c.args.now d out (answers.Txn c.args.revision true parts)) new)
    (λ done h. inr (records, subst (λ (y : Task). Looks core y.xid y.request y.view c.args.now (core_of new (stage_of done.stage)) done.actions) after h)) c.look_by.ensures
