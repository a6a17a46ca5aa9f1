-- The net and the spawner in memory, as contracts see them.
use Rattle.std.specs.Prelude.{◌≡◌, ℕ, if◌then◌else◌, List, Option, Some, None, Result, Ok, Err}
use Rattle.zx_outside.specs.Counts.{one_more}
use Rattle.zx_outside.specs.Memory.{fails_next}
use Rattle.zx_net.specs.Nets.{NetCounts}
use Rattle.zx_net.specs.declared.net.NetFault.{NetFault}
use Rattle.zx_net.specs.declared.net.NetFault.TheVariants as fault

-- A net with lists: the bytes of the streams that its next dials give, the numbers, from 1, of the calls that fail, and of the dials for
-- which there is no room.
pub record Listed : Type 0 where
  pub failing : List ℕ
  pub full : List ℕ
  pub streams : List (List ℕ)
  pub calls : ℕ
  pub counts : NetCounts
  pub no_room : ℕ

-- One call later: the lists of the calls that fail stay.
pub record IsNext (net net' : Listed) : Type 0 where
  pub called : net'.calls ≡ one_more net.calls
  pub listed : net'.failing ≡ net.failing
  pub full : net'.full ≡ net.full

-- What the next call of such a net fails for, if it is a dial.
abbrev pub refusal : List ℕ → List ℕ → ℕ → Option NetFault
refusal failing full calls = if fails_next full calls then Some fault.NoRoom else (if fails_next failing calls then Some fault.Failed else None)

-- A call failed for this, or for nothing.
abbrev pub IsRefusedFor : {A : Type 0} → Option NetFault → Result A NetFault → Type 0
IsRefusedFor why (Ok ends) = why ≡ None
IsRefusedFor why (Err found) = why ≡ Some found

-- A spawner that runs jobs in place, with the numbers, from 1, of the starts that are refused.
pub record InPlace : Type 0 where
  pub failing : List ℕ
  pub calls : ℕ
  pub refused : ℕ

-- The spawner after it was asked whether it refuses the next start.
abbrev pub asked : InPlace → InPlace
asked s = record s { calls = one_more s.calls; refused = if fails_next s.failing s.calls then one_more s.refused else s.refused }
