-- Nothing is lacking: the view is kept, and the request is decided.
use Rattle.std.proofs.Common.{inr, subst, ◌∙◌, arith}
use Rattle.std.specs.Prelude.{IfOk}
use Rattle.std.proofs.lemmas.Result.{IfOk-weaker}
use Rattle.zn_view.specs.Deciding.{IsTested}
use Rattle.zn_view.specs.Views.{IsDecision}
use Rattle.zp_step.specs.Kept.{keeps}
use Rattle.zp_step.specs.Looking.{IsBacked, Looks, decided}
use Rattle.zp_step.specs.Replies.{Is}
use Rattle.zp_step.specs.Stages.{Core}
use Rattle.zp_core.specs.Meanings.{Leads, ready}
use Rattle.zp_core.proofs.Nothing.{lacks-none}
use Rattle.zp_core.proofs.Tasks.{at-task}
use Rattle.zp_core.proofs.looks.look_by.Goals as goal

pub returns : goal.returns
returns c =
    let core = ready c.args.client.now in
    let t = c.args.task.value in
    let who = c.args.client.now.who in
    let d = c.in_ok-decision.decision in
    let kept = keeps core t.request t.view in
    let long = c.args.lacking.ok.0 in
    let tested = at-task (λ r v. IsTested r who v d) c.deref-3.result.now c.deref-4.result.now t c.deref-3.ensures c.deref-4.ensures c.in_ok-decision.ensures.tested in
    let right = at-task (λ r v. IsDecision r who v d) c.deref-3.result.now c.deref-4.result.now t c.deref-3.ensures c.deref-4.ensures c.in_ok-decision.ensures.right in
    let backed = at-task (λ r v. IsBacked r who c.args.now v d) c.deref-3.result.now c.deref-4.result.now t c.deref-3.ensures c.deref-4.ensures c.in_ok-decision.ensures.backed in
    let after = c.in_ok-keep_view.ensures ∙ (λ i. keeps core (c.deref.ensures i).request (c.deref-2.ensures i).view) in
    IfOk-weaker c.carry.result (Leads (Is (decided kept t.xid t.request t.view c.args.now d)) c.carry.new.client) (Leads (Looks core t.xid t.request t.view c.args.now) c.carry.new.client)
    (λ m i. inr (inr (record { decision = d; whole = lacks-none t.request who t.view c.args.lacking.items (omega (arith, long)) c.requires.needs; tested = tested; right = right; backed = backed; is = i })))
    (subst (λ (k : Core). IfOk c.carry.result (Leads (Is (decided k t.xid t.request t.view c.args.now d)) c.carry.new.client)) after c.carry.ensures)
