-- The plan has the parts of the choice.
use Rattle.std.proofs.Common.{sym, ◌∙◌}
use Rattle.zn_view.specs.Asks.{narrowed}
use Rattle.zn_updates.proofs.Plans.{planned_of}
use Rattle.zn_updates.proofs.plan.decision.Goals as goal

pub returns-in_ok-plan-in-Made : goal.returns-in_ok-plan-in-Made
returns-in_ok-plan-in-Made c = λ choice is.
    planned_of (narrowed c.args.view.now c.args.keys.now) c.in-Made.update c.in_ok-plan-in-Made.field-0 choice (sym c.in-Made.is ∙ is)
    c.in_ok-plan-in-Made.ensures.guards c.in_ok-plan-in-Made.ensures.success c.in_ok-plan-in-Made.ensures.again c.in_ok-plan-in-Made.ensures.draft c.in_ok-plan-in-Made.ensures.triggers
