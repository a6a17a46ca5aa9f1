-- The schedule of a number: what each step does.
use Rattle.std.specs.Prelude.{◌≡◌, ℕ, zero, suc, ◌-◌, List, replicate, slice_index, slice_set, Option, Some, None, MatchBool}
use Rattle.rand_pcg.specs.Lcg.{Lcg}
use Rattle.zt_text.specs.declared.script.Happening.TheVariants as line
use Rattle.zt_text.specs.declared.script.Why.{Why}
use Rattle.zp_script.specs.declared.flight.Flight.{Flight}
use Rattle.zp_script.specs.declared.flight.Flight.TheVariants.{Out, Carried, Denied}
use Rattle.zp_script.specs.Faults.{fault, flight_at}
use Rattle.zp_script.specs.Runs.{IsFirst}
use Rattle.zp_script.specs.Worlds.{World, conn_at, is_open_conn}
use Rattle.zp_clients.specs.declared.draw.Draw.{Draw}
use Rattle.zp_stress.specs.Clients.{openings, settlings}
use Rattle.zp_clients.specs.Draws.{after_draw, drawn, seeded}
use Rattle.zp_stress.specs.Passing.{Passes, PassesAll}
use Rattle.zp_clients.specs.Sent.{awaits_reply}
use Rattle.zp_clients.specs.Wishes.{is_ping, last_after, packet_of, wish_of}

-- ---- one step; `lasts` are the xids of the connections' last requests, from connection 1 on, 0 for none

-- the client of the connection sends the request that was drawn
pub record Sends (x : Draw) (lasts : List ℕ) (w : World) (lasts' : List ℕ) (w' : World) : Type 0 where
  pub counted : lasts' ≡ slice_set lasts (x.connection - 1) (last_after (wish_of x.kind) (slice_index lasts (x.connection - 1)))
  pub arrives : Passes w (line.Arrive x.connection (packet_of (wish_of x.kind) x.path (slice_index lasts (x.connection - 1)))) w'

-- this line is all that happens
pub record Does (lasts : List ℕ) (lasts' : List ℕ) (happens : Type 0) : Type 0 where
  pub same : lasts' ≡ lasts
  pub line : happens

-- in place of a ping the next update is told, where that is possible
abbrev pub PingsBy : Draw → List ℕ → World → List ℕ → World → Option Why → Type 0
PingsBy x lasts w lasts' w' None = Does lasts lasts' (Passes w (line.Entry x.connection) w')
PingsBy x lasts w lasts' w' (Some why) = Sends x lasts w lasts' w'

abbrev pub Pings : Draw → List ℕ → World → List ℕ → World → Type 0
Pings x lasts w lasts' w' = PingsBy x lasts w lasts' w' (fault w (line.Entry x.connection))

abbrev pub Asks : Draw → List ℕ → World → List ℕ → World → Type 0
Asks x lasts w lasts' w' = MatchBool (is_ping (wish_of x.kind)) (Pings x lasts w lasts' w') (Sends x lasts w lasts' w')

-- Nothing is out. A reply that waits, waits for the next update to be told; otherwise the client goes on.
abbrev pub GoesOn : Draw → List ℕ → World → List ℕ → World → Type 0
GoesOn x lasts w lasts' w' =
    MatchBool (awaits_reply x.connection w.lines) (Does lasts lasts' (Passes w (line.Entry x.connection) w')) (Asks x lasts w lasts' w')

-- by what the connection has out: its ask is carried out, or the answer is delivered
abbrev pub TurnsBy : Draw → List ℕ → World → List ℕ → World → Option Flight → Type 0
TurnsBy x lasts w lasts' w' (Some (Out asking)) = Does lasts lasts' (Passes w (line.Exec x.connection) w')
TurnsBy x lasts w lasts' w' (Some (Carried a)) = Does lasts lasts' (Passes w (line.Answer x.connection) w')
TurnsBy x lasts w lasts' w' (Some Denied) = Does lasts lasts' (Passes w (line.Answer x.connection) w')
TurnsBy x lasts w lasts' w' None = GoesOn x lasts w lasts' w'

-- nothing happens where the connection is closed
abbrev pub Steps : Draw → List ℕ → World → List ℕ → World → Type 0
Steps x lasts w lasts' w' = MatchBool (is_open_conn (conn_at x.connection w)) (TurnsBy x lasts w lasts' w' (flight_at x.connection w)) (Does lasts lasts' (w' ≡ w))

-- ---- all of it

-- so many steps, each of which draws from the generator
abbrev pub Walks : ℕ → ℕ → Lcg → List ℕ → World → World → Type 0
Walks connections zero g lasts w w' = w' ≡ w
Walks connections (suc n) g lasts w w' = (lasts' : List ℕ) × (mid : World) × Steps (drawn connections g) lasts w lasts' mid × Walks connections n (after_draw g) lasts' mid w'

-- The schedule of these numbers leads from the first world to this one: the clients open and connect, the steps are taken, and each
-- connection is settled.
pub record IsScheduled (number connections steps : ℕ) (w : World) : Type 0 where
  pub first : World
  pub is_first : IsFirst first
  pub opened : World
  pub opens : PassesAll first (openings connections 1) opened
  pub walked : World
  pub walks : Walks connections steps (seeded number) (replicate connections 0) opened walked
  pub settles : PassesAll walked (settlings connections 1) w
