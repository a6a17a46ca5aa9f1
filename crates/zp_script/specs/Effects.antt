-- What each line of a script does, but settle.
use Rattle.std.specs.Prelude.{◌≡◌, ℕ, ◌+◌, ◌-◌, ℤ, pos, Bool, not, ◌&&◌, ◌==◌, [], ◌∷◌, ◌++◌, length, fold, Option, Some, None, if◌then◌else◌}
use Rattle.std.specs.Arc.{arc_value}
use Rattle.std.specs.FinMap.{entries}
use Rattle.ev_types.specs.Store.{Store, revision}
use Rattle.ev_types.specs.Lapses.{lapse, foreign}
use Rattle.zk_jute.specs.JuteWriting.{with_length}
use Rattle.zk_service.specs.declared.cause.Cause.TheVariants as cause
use Rattle.zk_service.specs.declared.fresh.Fresh.{Fresh}
use Rattle.zk_transcript.specs.declared.transcript.TranscriptLine.TheVariants.{Open, Lapse as LapseLine}
use Rattle.zk_wire.specs.Cutting.{unread}
use Rattle.zn_layout.specs.declared.entry.Entry.{Entry}
use Rattle.zt_text.specs.declared.script.Happening.{Happening}
use Rattle.zt_text.specs.declared.script.Happening.TheVariants as line
use Rattle.zp_step.specs.declared.input.Input.{Input}
use Rattle.zp_step.specs.declared.input.Input.TheVariants as input
use Rattle.zp_step.specs.Stages.{new_core, counted_up}
use Rattle.zs_reap.specs.declared.reap.Reap.{Reap}
use Rattle.zs_reap.specs.declared.reap.Phase.TheVariants.{Unasked}
use Rattle.zp_script.specs.declared.flight.Flight.{Flight}
use Rattle.zp_script.specs.declared.flight.Flight.TheVariants.{Carried, Denied}
use Rattle.zp_script.specs.Worlds.{World, Conn, Actor, Connection, Reaper, Closed, conn_at, with_conn, is_closed_actor}
use Rattle.zp_script.specs.Entries.{cursor_at, max_kept_entries, next_entry}
use Rattle.zp_script.specs.Faults.{flight_at}
use Rattle.zp_script.specs.StepOutcomes.{ended_by, leaves}
use Rattle.zp_script.specs.Handing.{Handed, Reaps, AnswerComes, FailureComes, landed}
use Rattle.zp_script.specs.Carrying.{Executes, ExecutesStray}
use Rattle.zp_script.specs.Arriving.{Arrives}

-- ---- a number is taken

abbrev pub new_conn : ℕ → Actor → Conn
new_conn p actor = record { proxy = p; actor = actor; stream = unread; frames = 0; flight = None }

abbrev pub opened : World → ℕ → ℕ → Fresh → World
opened w c p fresh = record (with_conn w c (new_conn p (Connection (new_core fresh)))) { lines = w.lines ++ Open c p fresh.id fresh.passwd fresh.layout ∷ [] }

-- a reaper of this session, which has asked nothing
abbrev pub new_reap : ℤ → Reap
new_reap id = record { session = id; phase = Unasked }

abbrev pub new_reaper : ℕ → ℤ → Conn
new_reaper p id = new_conn p (Reaper (new_reap id))

-- ---- an answer is delivered, or a failure where the store denied the ask

abbrev pub Delivers : ℕ → World → World → Option Flight → Type 0
Delivers c w w' (Some (Carried a)) = AnswerComes c (landed c w) a w'
Delivers c w w' (Some Denied) = FailureComes c (landed c w) w'
Delivers c w w' _ = ⊥

-- ---- entries

abbrev pub IsEntry : Entry → Input → Type 0
IsEntry e (input.Entry shared) = arc_value shared ≡ e
IsEntry e _ = ⊥

abbrev pub EntersBy : ℕ → World → World → Option Entry → Type 0
EntersBy c w w' None = ⊥
EntersBy c w w' (Some e) = (x : Input) × IsEntry e x × Handed c [] w x w'

abbrev pub LagsBy : ℕ → World → World → Option ℤ → Type 0
LagsBy c w w' None = ⊥
LagsBy c w w' (Some cursor) = Handed c [] w (input.Lagged cursor (pos (length w.entries - max_kept_entries))) w'

-- the client's stream ends after all the bytes that came
abbrev pub EndsBy : ℕ → World → World → Option Conn → Type 0
EndsBy c w w' None = ⊥
EndsBy c w w' (Some x) = Handed c [] w (input.ClientEnd (counted_up (x.stream.place + length x.stream.rest))) w'

-- ---- a proxy restarts: all its open connections and reapers end, in rising order of their numbers

abbrev pub is_open_at : ℕ → Conn → Bool
is_open_at p x = (p == x.proxy) && not (is_closed_actor x.actor)

abbrev pub stopped : ℕ → World → ℕ × Conn → World
stopped p w e = if is_open_at p e.1 then leaves e.0 w e.1 Closed (ended_by e.0 cause.Restart e.1.flight) else w

abbrev pub restarted : ℕ → World → World
restarted p w = fold (stopped p) w (entries w.conns)

-- ---- a lease lapses, or another user puts a key

abbrev pub LapsesTo : ℤ → World → World → Option Store → Type 0
LapsesTo id w w' None = ⊥
LapsesTo id w w' (Some s) = w' ≡ record w { store = s; lines = w.lines ++ LapseLine (revision s) id ∷ [] }

abbrev pub PutTo : World → World → Option Store → Type 0
PutTo w w' None = ⊥
PutTo w w' (Some s) = w' ≡ record w { store = s }

-- ---- each line

abbrev pub Does : World → Happening → World → Type 0
Does w (line.Open c p id passwd layout) w' = w' ≡ opened w c p (record { id = id; passwd = passwd; layout = layout })
Does w (line.Frame c bytes) w' = Arrives c w (with_length bytes) w'
Does w (line.Arrive c bytes) w' = Arrives c w bytes w'
Does w (line.Exec c) w' = Executes c w w'
Does w (line.Answer c) w' = Delivers c w w' (flight_at c w)
Does w (line.Cut c) w' = FailureComes c w w'
Does w (line.Refuse c) w' = FailureComes c (landed c w) w'
Does w (line.Stray k) w' = ExecutesStray k w w'
Does w (line.Entry c) w' = EntersBy c w w' (next_entry c w)
Does w (line.Lag c) w' = LagsBy c w w' (cursor_at c w)
Does w (line.End c) w' = EndsBy c w w' (conn_at c w)
Does w (line.Restart p) w' = w' ≡ restarted p w
Does w (line.Lapse id) w' = LapsesTo id w w' (lapse w.store id)
Does w (line.Foreign k v) w' = PutTo w w' (foreign w.store k v)
Does w (line.Reap c p id) w' = Reaps c w None w' (new_reaper p id) (new_reap id)
Does w (line.Tick n) w' = w' ≡ record w { clock = w.clock + n }
Does w (line.Settle c) w' = ⊥
