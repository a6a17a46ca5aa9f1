-- The steps of one connection in worlds: what each finds in the world, and what it leaves there.
use Rattle.std.specs.Prelude.{◌≡◌, ℕ, List, [], Some, None}
use Rattle.std.specs.Arc.{arc_value}
use Rattle.zk_transcript.specs.Conversations.{IsServed}
use Rattle.zk_transcript.specs.declared.transcript.TranscriptLine.{TranscriptLine}
use Rattle.zp_step.specs.declared.input.Input.{Input}
use Rattle.zp_step.specs.declared.input.Input.TheVariants as input
use Rattle.zp_step.specs.Steps.{MayTake}
use Rattle.zp_script.specs.Arriving.{shown_frame}
use Rattle.zp_script.specs.Entries.{next_entry}
use Rattle.zp_script.specs.Faults.{flight_at}
use Rattle.zp_script.specs.Handing.{Handed, landed}
use Rattle.zp_script.specs.Happens.{Happens}
use Rattle.zp_script.specs.Worlds.{Conn, World, conn_at}
use Rattle.zp_script.specs.declared.flight.Flight.TheVariants.{Carried}
use Rattle.zt_text.specs.declared.script.Happening.{Happening}
use Rattle.zp_run.specs.Runs.{Step}
use Rattle.zp_world_laws.specs.Accounting.{IsAccounted, IsWithinCounts, OffersSession}
use Rattle.zp_world_laws.specs.Giving.{IsOneHistory}
use Rattle.zp_lives.specs.Events.{Events}

-- ---- one step of connection c

-- the world's clock may show any time: what is kept of a world does not depend on it
abbrev pub at_time : World → ℕ → World
at_time w now = record w { clock = now }

-- the input may be handed to c in this world, and at the step's time this step comes of it
pub record IsHanded (c : ℕ) (w : World) (s : Step) (w' : World) : Type 0 where
  pub handed : Handed c [] (at_time w s.time) s.input w'
  pub may : MayTake handed.core s.input
  pub out : handed.out ≡ s.out

-- A frame is shown first. An answer is that of the store, which has carried out what was asked. An entry is the next one, and no ask
-- is out. A call that failed, and what ends a connection from outside, may come at any time.
abbrev pub TakesBy : ℕ → World → Step → World → Input → Type 0
TakesBy c w s w' (input.Frame bytes) = (x : Conn) × (conn_at c w ≡ Some x) × IsHanded c (shown_frame c w x bytes) s w'
TakesBy c w s w' (input.Answer a) = (flight_at c w ≡ Some (Carried a)) × IsHanded c (landed c w) s w'
TakesBy c w s w' (input.Entry e) = (next_entry c w ≡ Some (arc_value e)) × (flight_at c w ≡ None) × IsHanded c w s w'
TakesBy c w s w' _ = IsHanded c w s w'

abbrev pub Takes : ℕ → World → Step → World → Type 0
Takes c w s w' = TakesBy c w s w' s.input

-- ---- a run, whatever happens beside it

-- any line of a script happens: of other connections and of this one, of reapers, of the store
abbrev pub HappensBeside : World → World → Type 0
HappensBeside w w' = (h : Happening) × OffersSession h × Happens w h w'

abbrev pub Lives : ℕ → World → List Step → World → Type 0
Lives c w steps w' = Events HappensBeside (Takes c) w steps w'

-- ---- what the laws say

-- all is accounted for after the run, where it was before
abbrev pub LivesAreAccounted : Type 0
LivesAreAccounted = (c : ℕ) (w w' : World) (steps : List Step) → Lives c w steps w' → IsWithinCounts w' → IsAccounted w → IsAccounted w'

-- the updates are one history, and c was sent the answer to its connect and then a walk of that history, fresh and in turn
pub record IsServedIn (lines : List TranscriptLine) (c : ℕ) : Type 0 where
  pub history : IsOneHistory lines
  pub served : IsServed lines c

abbrev pub AccountedAreServed : Type 0
AccountedAreServed = (w : World) (c : ℕ) → IsAccounted w → IsServedIn w.lines c
