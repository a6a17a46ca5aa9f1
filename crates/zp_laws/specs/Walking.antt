-- A step of an attached connection is a walk: what it sends is what some choices of the walk give, and an open core stands
-- where they lead.
use Rattle.std.specs.Prelude.{◌≡◌, ℕ, ℤ, ◌≤◌, ◌≤ℤ◌, ◌⊎◌, true, false, List, length, map, Some, All, Contains}
use Rattle.ev_types.specs.Store.{Store}
use Rattle.ev_types.specs.declared.ask.Ask.{Ask}
use Rattle.zk_transcript.specs.Walks.{Choice, Due, Walker, are_fresh, are_in_turn, walk}
use Rattle.zk_transcript.specs.declared.transcript.TranscriptLine.{TranscriptLine}
use Rattle.zp_step.specs.Ending.{sends}
use Rattle.zp_step.specs.Stages.{Core, Stage, Unconnected, Connecting, Waiting, Shut, asked_of, is_open}
use Rattle.zp_step.specs.Steps.{Steps}
use Rattle.zp_step.specs.declared.action.Action.{Action}
use Rattle.zp_step.specs.declared.action.Action.TheVariants as action
use Rattle.zp_step.specs.declared.input.Input.{Input}
use Rattle.zp_laws.specs.Inputs.{IsReady, is_answer}
use Rattle.zp_laws.specs.Standing.{IsFreshLook, Stands, StandsOpen, is_ahead}

-- ---- what is sent

-- Some choices, in turn, lead from one walker to another and give these packets, none of them due after the last line. They are
-- fresh under the premise `Afresh`, which says when the step looked.
pub record Strides (lines : List TranscriptLine) (conn : ℕ) (Afresh : Type 0) (id : ℤ) (w walker : Walker) (out : List Action) : Type 0 where
  pub choices : List Choice
  pub due : List Due
  pub walked : walk lines conn id w choices ≡ Some (walker, due)
  pub sent : map (λ (d : Due). d.1) due ≡ sends out
  pub small : All (λ (d : Due). d.0 ≤ length lines) due
  pub fresh : Afresh → are_fresh lines conn w.next choices ≡ true
  pub in_turn : are_in_turn lines conn w.next choices ≡ true

-- ---- the law

-- in a stage that is ready or at work on a request, neither the next request nor a later one has a line
abbrev pub IsAheadIn : List TranscriptLine → ℕ → Core → Stage → Type 0
IsAheadIn lines conn c (Waiting p) = Unit {0}
IsAheadIn lines conn c (Unconnected fresh) = Unit {0}
IsAheadIn lines conn c (Connecting connect) = Unit {0}
IsAheadIn lines conn c Shut = Unit {0}
IsAheadIn lines conn c _ = is_ahead lines conn c.next ≡ true

abbrev pub IsStill : Core → Core → Type 0
IsStill c c' = (c'.stage ≡ c.stage) × (c'.next ≡ c.next)

pub record Walks (store : Store) (lines : List TranscriptLine) (conn : ℕ) (Afresh : Type 0) (c c' : Core) (w : Walker) (looked : ℕ) (out : List Action) : Type 0 where
  pub walker : Walker
  pub strides : Strides lines conn Afresh c.who.session w walker out
  pub stands : StandsOpen (is_open c'.stage) store lines conn c' walker looked
  -- and what it holds then was seen after the line of the frame that is at work then
  pub looks : Afresh → IsFreshLook lines conn false c' looked
  pub who : c'.who ≡ c.who
  -- what is asked is for a request without a line
  pub ahead : IsStill c c' ⊎ IsAheadIn lines conn c' c'.stage
  -- neither goes back
  pub zxid : c.zxid ≤ℤ c'.zxid
  pub cursor : c.cursor ≤ℤ c'.cursor

-- What is sent is fresh where what the core holds, and what an answer shows, was seen after the line of the frame at work. Where it
-- was seen earlier, what is sent is a walk all the same.
abbrev pub SendsAreWalks : Type 0
SendsAreWalks = (store : Store) (lines : List TranscriptLine) (conn : ℕ) (c c' : Core) (w : Walker) (looked now : ℕ) (x : Input) (out : List Action)
    → IsReady store lines conn c w looked x → Steps c x now c' out → Walks store lines conn (IsFreshLook lines conn (is_answer x) c looked) c c' w looked out

-- ---- what is asked

-- it is what the stage has out, and what the stage rests on is true of the store
pub record IsAskedFor (store : Store) (lines : List TranscriptLine) (conn : ℕ) (c c' : Core) (looked : ℕ) (a : Ask) : Type 0 where
  pub out : asked_of c'.who c'.stage ≡ Some a
  pub walker : Walker
  pub stands : Stands store lines conn c' walker looked
  -- neither the request that is asked for nor a later one has a line
  pub ahead : IsAheadIn lines conn c' c'.stage

abbrev pub PlansAreBound : Type 0
PlansAreBound = (store : Store) (lines : List TranscriptLine) (conn : ℕ) (c c' : Core) (w : Walker) (looked now : ℕ) (x : Input) (out : List Action) (a : Ask)
    → IsReady store lines conn c w looked x → Steps c x now c' out → Contains out (action.Ask a) → IsAskedFor store lines conn c c' looked a
