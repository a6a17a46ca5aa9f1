-- The decision is a plan.
use Rattle.std.proofs.Common.{subst}
use Rattle.zn_updates.specs.Deciding.{IsTakenIfCreate}
use Rattle.zn_view.specs.Deciding.{IfPlanned}
use Rattle.zn_view.specs.declared.plan.Decision.{Decision}
use Rattle.zp_core.proofs.Passing.{plans-on}
use Rattle.zp_core.proofs.decisions.plan_decided.Goals as goal

pub returns-in-Planned-clause-plan : goal.returns-in-Planned-clause-plan
returns-in-Planned-clause-plan c =
    plans-on c.args.request.now c.args.who c.args.view.now c.args.now c.in_ok-plan.field-0 c.in-Planned.plan c.in-Planned.is c.requires.whole c.in_ok-plan.ensures.tested c.in_ok-plan.ensures.right c.in_ok-plan.ensures.backed

pub returns-in-Planned-clause-created : goal.returns-in-Planned-clause-created
returns-in-Planned-clause-created c = subst (λ (d : Decision). IfPlanned (IsTakenIfCreate c.args.request.now) d) c.in-Planned.is c.in_ok-plan.ensures.created
