-- How a step goes on with the frames that wait, after what it did at its input.
use Rattle.std.specs.Prelude.{◌≡◌, ℕ, List, [], ◌∷◌, ◌++◌, ◌⊎◌}
use Rattle.zp_step.specs.declared.action.Action.{Action}
use Rattle.zp_step.specs.Stages.{Core, Stage, Ready}
use Rattle.zp_step.specs.Steps.{Goes}
use Rattle.zp_core.specs.Meanings.{ready}
use Rattle.zp_core.specs.declared.client.Client.{Client}

-- after these first actions
pub record GoesOn (now : ℕ) (c : Core) (first : List Action) (c' : Core) (out : List Action) : Type 0 where
  pub later : List Action
  pub goes : Goes now c c' later
  pub joined : out ≡ first ++ later

-- no frame is to be taken up: it is not ready, or none waits
abbrev pub IsAtRest : Client → Stage → Client → Type 0
IsAtRest old s new = (ready new ≡ ready old) × ((s ≡ Ready → ⊥) ⊎ (old.waiting.items ≡ []))

-- this frame is next, and no longer waits
pub record IsNext (old : Client) (s : Stage) (new : Client) (frame : List ℕ) : Type 0 where
  pub is_ready : s ≡ Ready
  pub first : old.waiting.items ≡ frame ∷ new.waiting.items
  pub rest : ready new ≡ record (ready old) { waiting = new.waiting.items }
