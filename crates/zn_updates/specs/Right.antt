-- When a choice is what a request comes to on a state.
use Rattle.std.specs.Prelude.{◌≡◌, ℤ, List, None}
use Rattle.zk_model.specs.declared.node.Trigger.{Trigger}
use Rattle.zk_model.specs.declared.reply.PartResult.{PartResult}
use Rattle.zk_model.specs.Single.{Outcome, Refused, Done}
use Rattle.zk_model.specs.Znodes.{Tree}
use Rattle.zk_service.specs.States.{State}
use Rattle.zn_layout.specs.Changes.{KeyChange, last}
use Rattle.zn_layout.specs.Fits.{ChangesFit}
use Rattle.zn_layout.specs.Keys.{HeadKey}
use Rattle.zn_updates.specs.Choices.{Choice, Refuse, Make}
use Rattle.zn_view.specs.Needs.{own_result}

-- the state with another tree
abbrev pub with_tree : State → Tree → State
with_tree s t = record s { tree = t }

-- The outcome has the draft as its result, with the update's zxid, and these triggers. The changes lead from the state's keys to
-- those with the outcome's tree; none is of the head.
pub record IsOutcome (z : ℤ) (s : State) (cs : List KeyChange) (ts : List Trigger) (draft : PartResult) (outcome : Outcome) : Type 0 where
  pub tree : Tree
  pub done : outcome ≡ Done (own_result z draft) tree ts
  pub fits : ChangesFit z cs s (with_tree s tree)
  pub headless : last cs HeadKey ≡ None

-- a choice is right if it refuses with the outcome's code, or makes the outcome's update
abbrev pub IsRight : ℤ → State → Choice → Outcome → Type 0
IsRight z s (Refuse code) outcome = outcome ≡ Refused code
IsRight z s (Make cs ts draft) outcome = IsOutcome z s cs ts draft outcome
