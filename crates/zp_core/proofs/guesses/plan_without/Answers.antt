-- The view with the guess lacks nothing, and the decision on it is a plan or not.
use Rattle.std.proofs.Common.{[], subst, sym}
use Rattle.std.specs.Prelude.{Option, Some, None, IfSome}
use Rattle.zn_updates.specs.Deciding.{IsTakenIfCreate}
use Rattle.zn_view.specs.Needs.{AreNeeds}
use Rattle.zn_view.specs.Seen.{View}
use Rattle.zn_view.specs.declared.plan.Plan.{Plan}
use Rattle.zp_core.specs.OnKept.{PlansOn}
use Rattle.zp_core.proofs.Guessing.{guess-whole, taken-made}
use Rattle.zp_core.proofs.guesses.plan_without.Goals as goal

pub plan_decided-requires-clause-whole : goal.plan_decided-requires-clause-whole
plan_decided-requires-clause-whole c =
    let t = c.args.task.now in
    subst (λ (v : View). AreNeeds t.request c.args.who v []) (sym c.in_ok-view.ensures) (guess-whole t.view c.args.key.now t.request c.args.who c.requires.may.sequence c.requires.may.record_of_node c.requires.needs)

pub returns-in-Some : goal.returns-in-Some
returns-in-Some c =
    let t = c.args.task.now in
    let p = c.in-Some.plan in
    let planned = subst (PlansOn t.request c.args.who c.args.now c.in_ok-view.view) c.in-Some.is c.in_ok-plan.ensures.plan in
    let created = subst (λ (o : Option Plan). IfSome o (IsTakenIfCreate t.request)) c.in-Some.is c.in_ok-plan.ensures.created in
    record {
      on = c.in_ok-view.ensures;
      planned = subst (λ (v : View). PlansOn t.request c.args.who c.args.now v (Some p)) c.in_ok-view.ensures planned;
      taken = taken-made t.request p c.requires.may.sequence created;
    }

pub returns-in-None : goal.returns-in-None
returns-in-None c =
    let t = c.args.task.now in
    let passed = subst (PlansOn t.request c.args.who c.args.now c.in_ok-view.view) c.in-None.is c.in_ok-plan.ensures.plan in
    subst (λ (v : View). PlansOn t.request c.args.who c.args.now v None) c.in_ok-view.ensures passed
