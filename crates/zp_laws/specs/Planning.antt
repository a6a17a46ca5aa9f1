-- When a plan is made: at the time of the step that asks its transaction.
use Rattle.std.specs.Prelude.{List, None, false, ℕ, ◌≡◌, ◌⊎◌}
use Rattle.zp_step.specs.Ending.{asked_by}
use Rattle.zp_step.specs.Stages.{Committing, Core, Stage, is_shut}
use Rattle.zp_step.specs.Steps.{Steps}
use Rattle.zp_step.specs.declared.action.Action.{Action}
use Rattle.zp_step.specs.declared.input.Input.{Input}

-- the plan that a stage has out, if it has one, was made at this time
abbrev pub IsPlannedAt : ℕ → Stage → Type 0
IsPlannedAt now (Committing xid r v p time) = time ≡ now
IsPlannedAt now _ = Unit {0}

-- after a step the plan that is out was made now, or the stage is what it was and the step asked nothing
abbrev pub PlansAreMadeNow : Type 0
PlansAreMadeNow = (c c' : Core) (x : Input) (now : ℕ) (out : List Action) → is_shut c.stage ≡ false → Steps c x now c' out → IsPlannedAt now c'.stage ⊎ ((c'.stage ≡ c.stage) × (asked_by out ≡ None))
