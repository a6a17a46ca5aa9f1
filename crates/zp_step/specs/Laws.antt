-- What holds of a step by its definition.
use Rattle.std.specs.Prelude.{◌≡◌, ℕ, true, false, List, [], ◌∷◌, Option, Some, None}
use Rattle.zk_service.specs.declared.cause.Cause.{Cause}
use Rattle.zk_service.specs.declared.cause.Cause.TheVariants as cause
use Rattle.zp_step.specs.declared.action.Action.{Action}
use Rattle.zp_step.specs.declared.action.Action.TheVariants as action
use Rattle.zp_step.specs.declared.input.Input.{Input}
use Rattle.zp_step.specs.declared.input.Input.TheVariants as input
use Rattle.zp_step.specs.Stages.{Core, Shut, is_shut}
use Rattle.zp_step.specs.Steps.{Steps}

abbrev pub ShutForGood : Type 0
ShutForGood = (c c' : Core) (x : Input) (now : ℕ) (out : List Action) → is_shut c.stage ≡ true → Steps c x now c' out → (c' ≡ c) × (out ≡ [])

-- the cause for which an input shuts a connection, whatever its stage
abbrev pub end_by : Input → Option Cause
end_by input.Failed = Some cause.LinkFault
end_by (input.BadLength place length) = Some (cause.BadLength place length)
end_by (input.Lagged cursor floor) = Some (cause.Lagged cursor floor)
end_by input.FeedClosed = Some cause.FeedClosed
end_by (input.ClientEnd place) = Some (cause.ClientEnd place)
end_by _ = None

abbrev pub EndsAreNamed : Type 0
EndsAreNamed = (c c' : Core) (x : Input) (why : Cause) (now : ℕ) (out : List Action) → is_shut c.stage ≡ false → end_by x ≡ Some why
    → Steps c x now c' out → (c'.stage ≡ Shut) × (out ≡ action.Close why ∷ [])
