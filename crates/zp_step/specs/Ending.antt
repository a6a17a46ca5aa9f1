-- Of every step: the order of its actions, and that no frame is lost.
use Rattle.std.specs.Prelude.{◌≡◌, ℕ, ◌+◌, ◌≤◌, ◌⊎◌, Bool, true, false, List, [], ◌∷◌, Option, Some, None, filter_map}
use Rattle.ev_types.specs.declared.ask.Ask.{Ask}
use Rattle.zp_step.specs.Stages.{Core, Stage, Unconnected, Ready, asked_of, is_shut, max_count, is_served, next_frame}
use Rattle.zp_step.specs.Steps.{Steps}
use Rattle.zp_step.specs.declared.action.Action.{Action}
use Rattle.zp_step.specs.declared.action.Action.TheVariants as action
use Rattle.zp_step.specs.declared.input.Input.{Input}
use Rattle.zp_step.specs.declared.input.Input.TheVariants as input

-- ---- the packets that are sent

abbrev pub sent_in : Action → Option (List ℕ)
sent_in (action.Send bytes) = Some bytes
sent_in (action.Ask a) = None
sent_in (action.Close why) = None

abbrev pub sends : List Action → List (List ℕ)
sends out = filter_map sent_in out

-- ---- the actions: packets, and then one ask, or the close, or neither

abbrev pub is_end : List Action → Bool
is_end [] = true
is_end _ = false

abbrev pub ends_well : List Action → Bool
ends_well [] = true
ends_well (action.Send bytes ∷ more) = ends_well more
ends_well (action.Ask a ∷ more) = is_end more
ends_well (action.Close why ∷ more) = is_end more

abbrev pub asked_by : List Action → Option Ask
asked_by [] = None
asked_by (action.Send bytes ∷ more) = asked_by more
asked_by (action.Ask a ∷ more) = Some a
asked_by (action.Close why ∷ more) = None

abbrev pub closes : List Action → Bool
closes [] = false
closes (action.Send bytes ∷ more) = closes more
closes (action.Ask a ∷ more) = false
closes (action.Close why ∷ more) = true

-- an answer and a failure take what was out; any other input leaves it
abbrev pub takes_out : Input → Bool
takes_out (input.Answer a) = true
takes_out input.Failed = true
takes_out _ = false

abbrev pub StaysOut : Core → Core → Input → List Action → Type 0
StaysOut c c' x out = (takes_out x ≡ false) × (c'.stage ≡ c.stage) × (asked_by out ≡ None)

-- it closes exactly where it is shut then; what it asks is what is out then, or what was out stays so
pub record EndsWell (c c' : Core) (x : Input) (out : List Action) : Type 0 where
  pub well : ends_well out ≡ true
  pub closes : closes out ≡ is_shut c'.stage
  pub asks : (is_shut c'.stage ≡ true) ⊎ (asked_of c'.who c'.stage ≡ asked_by out) ⊎ StaysOut c c' x out

abbrev pub StepsEndWell : Type 0
StepsEndWell = (c c' : Core) (x : Input) (now : ℕ) (out : List Action) → is_shut c.stage ≡ false → Steps c x now c' out → EndsWell c c' x out

-- ---- the frames: each one that came was taken up or waits after the others, and no other one

abbrev pub comes_in : Input → ℕ
comes_in (input.Frame bytes) = 1
comes_in _ = 0

-- before the connect, which is frame 0, the next frame to answer has index 1
abbrev pub IsNumbered : Core → Stage → Type 0
IsNumbered c (Unconnected fresh) = c.next ≡ 1
IsNumbered c _ = Unit {0}

pub record CountsOn (c c' : Core) (x : Input) : Type 0 where
  pub number : next_frame c' ≡ next_frame c + comes_in x
  pub served : is_served c.stage ≡ true → is_served c'.stage ≡ true
  pub numbered : IsNumbered c' c'.stage
  -- no frame waits while it is ready
  pub rested : c'.stage ≡ Ready → c'.waiting ≡ []

-- while the indices stay within 64 bits
abbrev pub StepsCount : Type 0
StepsCount = (c c' : Core) (x : Input) (now : ℕ) (out : List Action) → is_shut c.stage ≡ false → IsNumbered c c.stage → next_frame c + comes_in x ≤ max_count → Steps c x now c' out
    → (is_shut c'.stage ≡ true) ⊎ CountsOn c c' x
