-- What the calls of a net say: its counts, and the streams that it gives.
use Rattle.std.specs.Prelude.{◌≡◌, ℕ, Bool, false, List, [], ◌∷◌, Option, Some, None, Result, Ok, Err, IfSome}
use Rattle.zx_outside.specs.Counts.{InputCounts, OutputCounts, one_more}
use Rattle.zx_net.specs.declared.net.NetFault.{NetFault}
use Rattle.zx_net.specs.declared.net.NetFault.TheVariants as fault

-- What a net counts: the faults of its doors, those of its dials, and the streams that it accepted.
pub record NetCounts : Type 0 where
  pub door_faults : ℕ
  pub dial_faults : ℕ
  pub accepted : ℕ

-- Nothing was counted yet.
abbrev pub no_counts : NetCounts
no_counts = record { door_faults = 0; dial_faults = 0; accepted = 0 }

-- The counts after a bind: a fault counts as one of a door, and nothing else is counted.
abbrev pub counts_after_bind : {A E : Type 0} → Result A E → NetCounts → NetCounts
counts_after_bind (Ok door) counts = counts
counts_after_bind (Err why) counts = record counts { door_faults = one_more counts.door_faults }

-- The counts after an accept: a stream counts as one, and a fault as one of a door.
abbrev pub counts_after_accept : {A E : Type 0} → Result A E → NetCounts → NetCounts
counts_after_accept (Ok ends) counts = record counts { accepted = one_more counts.accepted }
counts_after_accept (Err why) counts = record counts { door_faults = one_more counts.door_faults }

-- The counts after a dial: a fault counts as one, and nothing else is counted.
abbrev pub counts_after_dial : {A E : Type 0} → Result A E → NetCounts → NetCounts
counts_after_dial (Ok ends) counts = counts
counts_after_dial (Err why) counts = record counts { dial_faults = one_more counts.dial_faults }

-- The dials for which there was no room, with one more that failed for this.
abbrev pub no_room_after : NetFault → ℕ → ℕ
no_room_after fault.NoRoom n = one_more n
no_room_after fault.InUse n = n
no_room_after fault.NoAddress n = n
no_room_after fault.Denied n = n
no_room_after fault.Failed n = n

-- The same after any dial.
abbrev pub no_room_after_dial : {A : Type 0} → Result A NetFault → ℕ → ℕ
no_room_after_dial (Ok ends) n = n
no_room_after_dial (Err why) n = no_room_after why n

-- No bytes, where they are told.
abbrev pub IsNoneYet : Option (List ℕ) → Type 0
IsNoneYet told = IfSome told (λ bytes. bytes ≡ [])

-- A source that was not read yet, under this name.
pub record IsFreshSource (given : Option (List ℕ)) (counts : InputCounts) (ended : Bool) (name number : ℕ) : Type 0 where
  pub given_none : IsNoneYet given
  pub counted_none : counts ≡ record { faults = 0; idles = 0 }
  pub is_open : ended ≡ false
  pub named : name ≡ number

-- A sink that was not written yet, under this name.
pub record IsFreshSink (taken : Option (List ℕ)) (counts : OutputCounts) (name number : ℕ) : Type 0 where
  pub taken_none : IsNoneYet taken
  pub counted_none : counts ≡ record { faults = 0 }
  pub named : name ≡ number

-- A dial gave the next of the listed streams, by what the net tells before and after it and what the source has left.
-- After the list each stream is empty. A net that tells nothing of its streams goes on so.
abbrev pub GivesNext : Option (List (List ℕ)) → Option (List (List ℕ)) → Option (List ℕ) → Type 0
GivesNext None streams' left = streams' ≡ None
GivesNext (Some []) streams' left = (streams' ≡ Some []) × (left ≡ Some [])
GivesNext (Some (bytes ∷ later)) streams' left = (streams' ≡ Some later) × (left ≡ Some bytes)
