-- When changes of keys are those from one state to another, all at one zxid.
use Rattle.std.specs.Prelude.{◌≡◌, ◌+◌, ℤ, List, Option, Some, None}
use Rattle.zk_model.specs.declared.node.Trigger.{Trigger}
use Rattle.zk_service.specs.States.{State}
use Rattle.zn_layout.specs.Keys.{Key}
use Rattle.zn_layout.specs.StandsFor.{Stored, Means}
use Rattle.zn_layout.specs.Changes.{Put, KeyChange, last}

-- what a change at zxid z leaves under its key
abbrev pub left : ℤ → Option Put → Option Stored
left z None = None
left z (Some w) = Some (record { value = w.value; revision = z; lease = w.lease })

-- a key that isn't written: whatever means the old state there means the new one; a key that is written: what is left there
-- means the new state
abbrev pub KeyFits : ℤ → Option (Option Put) → Key → State → State → Type 0
KeyFits z None k old new = (o : Option Stored) → Means old k o → Means new k o
KeyFits z (Some w) k old new = Means new k (left z w)

-- at zxid z the changes turn keys that mean the old state into keys that mean the new one. Only the tree and the sessions of
-- the states matter here; what the head means is `IsNextState`
pub record ChangesFit (z : ℤ) (cs : List KeyChange) (old new : State) : Type 0 where
  pub each : (k : Key) → KeyFits z (last cs k) k old new

-- the new state has one update more than the old one, with zxid z and these triggers
pub record IsNextState (z : ℤ) (ts : List Trigger) (old new : State) : Type 0 where
  pub zxid : new.zxid ≡ z
  pub updates : new.updates ≡ old.updates + 1
  pub triggers : new.triggers ≡ ts
