-- What one connection did so far: its steps in order, and what was told of them.
use Rattle.std.specs.Prelude.{◌≡◌, ℕ, List, [], ◌∷◌, filter_map, flat_map, Option, Some, None}
use Rattle.ev_types.specs.declared.answer.Answer.{Answer}
use Rattle.ev_types.specs.declared.ask.Ask.{Ask}
use Rattle.zn_layout.specs.declared.entry.Entry.{Entry}
use Rattle.std.specs.Arc.{arc_value}
use Rattle.zk_service.specs.declared.cause.Cause.{Cause}
use Rattle.zp_step.specs.declared.action.Action.{Action}
use Rattle.zp_step.specs.declared.action.Action.TheVariants as action
use Rattle.zp_step.specs.declared.input.Input.{Input}
use Rattle.zp_step.specs.declared.input.Input.TheVariants as input
use Rattle.zp_step.specs.Stages.{Core}
use Rattle.zp_step.specs.Steps.{MayTake, Steps}
use Rattle.zp_step.specs.Ending.{asked_by, sends}

-- one step: what was handed in, at which time (in milliseconds), and what the connection did then
pub record Step : Type 0 where
  pub input : Input
  pub time : ℕ
  pub out : List Action

-- from a core, by these steps in order, to a core
abbrev pub Runs : Core → List Step → Core → Type 0
Runs c [] c' = c' ≡ c
Runs c (s ∷ ss) c' = (mid : Core) × MayTake c s.input × Steps c s.input s.time mid s.out × Runs mid ss c'

-- ---- what the steps took in, in order

abbrev pub frame_in : Input → Option (List ℕ)
frame_in (input.Frame bytes) = Some bytes
frame_in _ = None

abbrev pub frames_of : List Step → List (List ℕ)
frames_of ss = filter_map (λ (s : Step). frame_in s.input) ss

-- an answer, or that the call failed
abbrev pub answer_in : Input → Option (Option Answer)
answer_in (input.Answer a) = Some (Some a)
answer_in input.Failed = Some None
answer_in _ = None

abbrev pub answers_of : List Step → List (Option Answer)
answers_of ss = filter_map (λ (s : Step). answer_in s.input) ss

abbrev pub entry_in : Input → Option Entry
entry_in (input.Entry e) = Some (arc_value e)
entry_in _ = None

abbrev pub entries_of : List Step → List Entry
entries_of ss = filter_map (λ (s : Step). entry_in s.input) ss

-- ---- what they gave, in order

-- the packets
abbrev pub said : List Step → List (List ℕ)
said ss = flat_map (λ (s : Step). sends s.out) ss

-- what was asked
abbrev pub asks_of : List Step → List Ask
asks_of ss = filter_map (λ (s : Step). asked_by s.out) ss

-- the cause for which a step closed the connection
abbrev pub closed_for : List Action → Option Cause
closed_for [] = None
closed_for (action.Send bytes ∷ more) = closed_for more
closed_for (action.Ask a ∷ more) = None
closed_for (action.Close why ∷ more) = Some why
