-- What handing in one input does: it is noted, the core takes its step, and the packets of the step are noted and held.
use Rattle.std.specs.Prelude.{◌≡◌, ◌⊎◌, ℕ, List, Option, Result, Err}
use Rattle.zx_base.specs.declared.memory.Memory.{Memory}
use Rattle.zp_step.specs.Stages.{Core}
use Rattle.zp_step.specs.Steps.{Steps}
use Rattle.zp_step.specs.declared.action.Action.{Action}
use Rattle.zp_step.specs.declared.input.Input.{Input}
use Rattle.zp_core.specs.Held.{IsHeld}
use Rattle.zp_run.specs.Notes.{In, Noted, noted_input, with_note}
use Rattle.zp_conn.specs.Speaking.{Speaks}
use Rattle.zp_conn.specs.declared.speaking.Rest.{Rest}

-- memory was refused, and nothing was held or noted
abbrev pub IsRefused : Result Rest Memory → List ℕ → List ℕ → Option (List Noted) → Option (List Noted) → Type 0
IsRefused (Err _) o o' n n' = (o' ≡ o) × (n' ≡ n)
IsRefused _ o o' n n' = ⊥

-- the step was taken, and spoken
pub record IsSpoken (r : Result Rest Memory) (x : Input) (now : ℕ) (core core' : Core) (o o' : List ℕ) (n n' : Option (List Noted)) : Type 0 where
  pub out : List Action
  pub stepped : Steps core x now core' out
  pub holds : IsHeld core'
  pub speaks : Speaks r out o o' n n'

abbrev pub IsStepped : Result Rest Memory → Input → ℕ → Core → Core → List ℕ → List ℕ → Option (List Noted) → Option (List Noted) → Type 0
IsStepped r x now core core' o o' n n' = IsRefused r o o' n n' ⊎ IsSpoken r x now core core' o o' n n'

-- the input was not noted; or it was, and then the core took its step, or ran out of memory
abbrev pub Hands : Result Rest Memory → Input → ℕ → Core → Core → List ℕ → List ℕ → Option (List Noted) → Option (List Noted) → Type 0
Hands r x now core core' o o' n n' = IsRefused r o o' n n' ⊎ IsStepped r x now core core' o o' (with_note n (In (noted_input x) now)) n'
