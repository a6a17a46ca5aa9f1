-- One line of a script.
use Rattle.std.specs.Prelude.{◌≡◌, ℕ, zero, suc, ◌+◌, ◌*◌, length, Option, Some, None, is_some, Bool, true, false, if◌then◌else◌}
use Rattle.zt_text.specs.declared.script.Happening.{Happening}
use Rattle.zt_text.specs.declared.script.Happening.TheVariants as line
use Rattle.zp_step.specs.declared.wants.Wants.{Wants}
use Rattle.zp_step.specs.declared.wants.Wants.TheVariants as wants
use Rattle.zp_step.specs.Stages.{wants_of, counted_up}
use Rattle.zp_script.specs.declared.flight.Flight.{Flight}
use Rattle.zp_script.specs.declared.flight.Flight.TheVariants.{Out, Carried, Denied}
use Rattle.zp_script.specs.Worlds.{World, Conn, Actor, Connection, conn_at, is_closed_actor}
use Rattle.zp_script.specs.Entries.{next_entry}
use Rattle.zp_script.specs.Faults.{fault}
use Rattle.zp_script.specs.Effects.{Does}

-- ---- settle: what is out is carried out and answered, and the entries that a reply waits for are taken, until nothing is left

-- a reply waits for an entry
abbrev pub wants_entry : Wants → Bool
wants_entry (wants.Entry cursor) = true
wants_entry _ = false

abbrev pub is_waiting : Actor → Bool
is_waiting (Connection core) = wants_entry (wants_of core)
is_waiting _ = false

-- a reply waits for an entry, and it is there
abbrev pub entry_line : ℕ → World → Conn → Option Happening
entry_line c w x = if is_waiting x.actor then (if is_some (next_entry c w) then Some (line.Entry c) else None) else None

abbrev pub flight_line : ℕ → World → Conn → Option Flight → Option Happening
flight_line c w x (Some (Out asking)) = Some (line.Exec c)
flight_line c w x (Some (Carried a)) = Some (line.Answer c)
flight_line c w x (Some Denied) = Some (line.Answer c)
flight_line c w x None = entry_line c w x

-- the line that settle does next, if any
abbrev pub settling_conn : ℕ → World → Option Conn → Option Happening
settling_conn c w None = None
settling_conn c w (Some x) = if is_closed_actor x.actor then None else flight_line c w x x.flight

abbrev pub settling : ℕ → World → Option Happening
settling c w = settling_conn c w (conn_at c w)

-- settle does its lines, at most this many
abbrev pub Settles : ℕ → ℕ → World → World → Type 0
Settles zero c w w' = w' ≡ w
Settles (suc n) c w w' = elim (settling c w) [ None ↦ w' ≡ w | Some h ↦ (mid : World) × Does w h mid × Settles n c mid w' ]

-- the asks that are to come are reckoned as 64 for each frame, and one for each path that a frame may name, which takes a byte or
-- more; that no frame takes more is not proved
abbrev pub asks_at : Option Conn → ℕ
asks_at None = 0
asks_at (Some x) = 64 * (x.frames + 1) + x.stream.place

-- Each ask is carried out and answered, and may be an update, whose entry is taken; so are the entries so far. In a run this number
-- cuts off no settle, where it is below 2^64 - 1 (`every_settle_ends` of `zp_settle_laws`).
abbrev pub max_settling : ℕ → World → ℕ
max_settling c w = counted_up (3 * asks_at (conn_at c w) + length w.entries)

-- ---- a line whose tests all pass

abbrev pub Effect : World → Happening → World → Type 0
Effect w (line.Settle c) w' = Settles (max_settling c w) c w w'
Effect w h w' = Does w h w'

pub record Happens (w : World) (h : Happening) (w' : World) : Type 0 where
  pub possible : fault w h ≡ None
  pub effect : Effect w h w'
