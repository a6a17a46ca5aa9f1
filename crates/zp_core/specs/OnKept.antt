-- A plan on a kept view.
use Rattle.std.specs.Prelude.{ℕ, [], Option, Some, None}
use Rattle.zk_model.specs.declared.request.Request.{Request}
use Rattle.zn_view.specs.Deciding.{IsTested}
use Rattle.zn_view.specs.Needs.{AreNeeds}
use Rattle.zn_view.specs.Seen.{View}
use Rattle.zn_view.specs.Views.{IsDecision}
use Rattle.zn_view.specs.declared.plan.Decision.TheVariants.{Planned}
use Rattle.zn_view.specs.declared.plan.Plan.{Plan}
use Rattle.zn_view.specs.declared.plan.Who.{Who}
use Rattle.zp_step.specs.Looking.{IsBacked, PassesOver}

-- nothing is lacking in the view, and this plan is the decision on it
pub record IsPlanOn (r : Request) (who : Who) (now : ℕ) (v : View) (p : Plan) : Type 0 where
  pub whole : AreNeeds r who v []
  pub tested : IsTested r who v (Planned p)
  pub right : IsDecision r who v (Planned p)
  pub backed : IsBacked r who now v (Planned p)

-- the plan, or none where something is lacking or the decision is no plan
abbrev pub PlansOn : Request → Who → ℕ → View → Option Plan → Type 0
PlansOn r who now v None = PassesOver r who v
PlansOn r who now v (Some p) = IsPlanOn r who now v p
