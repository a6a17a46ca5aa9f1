-- What a step does, by the first test that fails where the ask of its connection is to be carried out.
use Rattle.std.proofs.Common.{◌≡◌, ℕ, Bool, true, false, List, refl, sym, subst, MatchBool}
use Rattle.std.specs.Prelude.{Option, Some, None, is_none, not}
use Rattle.zp_script.specs.declared.flight.Flight.{Flight}
use Rattle.zp_script.specs.declared.flight.Flight.TheVariants.{Out, Carried, Denied}
use Rattle.zp_script.specs.Faults.{fault, flight_at, if_fails, is_to_carry_out}
use Rattle.zp_script.specs.Worlds.{Conn, World, conn_at, is_closed_actor, is_open_conn}
use Rattle.zt_text.specs.declared.script.Happening.{Happening}
use Rattle.zt_text.specs.declared.script.Happening.TheVariants as line
use Rattle.zt_text.specs.declared.script.Why.{Why}
use Rattle.zt_text.specs.declared.script.Why.TheVariants as why
use Rattle.zp_clients.specs.declared.draw.Draw.{Draw}
use Rattle.zp_stress.specs.declared.schedule.Turn.TheVariants.{Over, Deliver, GoOn}
use Rattle.zp_stress.specs.Passing.{Passes, PassesBy}
use Rattle.zp_stress.specs.Schedules.{Asks, Does, GoesOn, Pings, PingsBy, Sends, Steps, TurnsBy}
use Rattle.zp_clients.specs.Sent.{awaits_reply}
use Rattle.zp_stress.specs.Turns.{turn_of}
use Rattle.zp_clients.specs.Wishes.{is_ping, wish_of}

-- the tests, by what is known of the number, by whether it is closed, and by what it has out
abbrev ask_tests : Option Flight → Option Why
ask_tests f = if_fails (is_none f) why.NoRequestOut (if_fails (not (is_to_carry_out f)) why.AlreadyCarriedOut None)

abbrev open_tests : Bool → Option Flight → Option Why
open_tests closed f = if_fails closed why.ConnectionClosed (ask_tests f)

abbrev tests : Option Conn → Option Flight → Option Why
tests o f = elim o [ None ↦ Some why.NoSuchConnection | Some y ↦ if_fails (is_closed_actor y.actor) why.ConnectionClosed (ask_tests f) ]

-- a line that is not the end of its step was passed over
passed_over : (w : World) (h : Happening) (mid : World) (o : Option Why) → (turn_of o ≡ Over → ⊥) → PassesBy w h mid o → mid ≡ w
passed_over w h mid None more p = absurd (more refl)
passed_over w h mid (Some why) more p = p

pub turned_over : (w : World) (h : Happening) (mid : World) → (turn_of (fault w h) ≡ Over → ⊥) → Passes w h mid → mid ≡ w
turned_over w h mid more p = passed_over w h mid (fault w h) more p

module _ (x : Draw) (lasts : List ℕ) (w : World) (lasts' : List ℕ) (w' : World) where
  abbrev Turns : Bool → Option Flight → Type 0
  Turns live f = MatchBool live (TurnsBy x lasts w lasts' w' f) (Does lasts lasts' (w' ≡ w))

  -- ---- the ask was carried out, or the connection is closed

  over-by : (closed : Bool) (f : Option Flight) → turn_of (open_tests closed f) ≡ Over → PassesBy w (line.Exec x.connection) w' (open_tests closed f) → Passes w (line.Exec x.connection) w' → lasts' ≡ lasts → Turns (not closed) f
  over-by true f is by passes same = record { same = same; line = by }
  over-by false None is by passes same = absurd (let e : GoOn ≡ Over = is in cc)
  over-by false (Some (Out asking)) is by passes same = record { same = same; line = passes }
  over-by false (Some (Carried a)) is by passes same = absurd (let e : Deliver ≡ Over = is in cc)
  over-by false (Some Denied) is by passes same = absurd (let e : Deliver ≡ Over = is in cc)

  over-at : (o : Option Conn) (f : Option Flight) → turn_of (tests o f) ≡ Over → PassesBy w (line.Exec x.connection) w' (tests o f) → Passes w (line.Exec x.connection) w' → lasts' ≡ lasts → Turns (is_open_conn o) f
  over-at None f is by passes same = record { same = same; line = by }
  over-at (Some y) f is by passes same = over-by (is_closed_actor y.actor) f is by passes same

  pub steps_over : turn_of (fault w (line.Exec x.connection)) ≡ Over → Passes w (line.Exec x.connection) w' → lasts' ≡ lasts → Steps x lasts w lasts' w'
  unfolding fault
  steps_over is passes same = over-at (conn_at x.connection w) (flight_at x.connection w) is passes passes same

  -- ---- it was carried out before

  deliver-by : (closed : Bool) (f : Option Flight) → turn_of (open_tests closed f) ≡ Deliver → Does lasts lasts' (Passes w (line.Answer x.connection) w') → Turns (not closed) f
  deliver-by true f is d = absurd (let e : Over ≡ Deliver = is in cc)
  deliver-by false None is d = absurd (let e : GoOn ≡ Deliver = is in cc)
  deliver-by false (Some (Out asking)) is d = absurd (let e : Over ≡ Deliver = is in cc)
  deliver-by false (Some (Carried a)) is d = d
  deliver-by false (Some Denied) is d = d

  deliver-at : (o : Option Conn) (f : Option Flight) → turn_of (tests o f) ≡ Deliver → Does lasts lasts' (Passes w (line.Answer x.connection) w') → Turns (is_open_conn o) f
  deliver-at None f is d = absurd (let e : Over ≡ Deliver = is in cc)
  deliver-at (Some y) f is d = deliver-by (is_closed_actor y.actor) f is d

  pub steps_deliver : turn_of (fault w (line.Exec x.connection)) ≡ Deliver → Passes w (line.Answer x.connection) w' → lasts' ≡ lasts → Steps x lasts w lasts' w'
  unfolding fault
  steps_deliver is passes same = deliver-at (conn_at x.connection w) (flight_at x.connection w) is (record { same = same; line = passes })

  -- ---- it has no ask out

  go-by : (closed : Bool) (f : Option Flight) → turn_of (open_tests closed f) ≡ GoOn → GoesOn x lasts w lasts' w' → Turns (not closed) f
  go-by true f is h = absurd (let e : Over ≡ GoOn = is in cc)
  go-by false None is h = h
  go-by false (Some (Out asking)) is h = absurd (let e : Over ≡ GoOn = is in cc)
  go-by false (Some (Carried a)) is h = absurd (let e : Deliver ≡ GoOn = is in cc)
  go-by false (Some Denied) is h = absurd (let e : Deliver ≡ GoOn = is in cc)

  go-at : (o : Option Conn) (f : Option Flight) → turn_of (tests o f) ≡ GoOn → GoesOn x lasts w lasts' w' → Turns (is_open_conn o) f
  go-at None f is h = absurd (let e : Over ≡ GoOn = is in cc)
  go-at (Some y) f is h = go-by (is_closed_actor y.actor) f is h

  pub steps_go : turn_of (fault w (line.Exec x.connection)) ≡ GoOn → GoesOn x lasts w lasts' w' → Steps x lasts w lasts' w'
  unfolding fault
  steps_go is h = go-at (conn_at x.connection w) (flight_at x.connection w) is h

-- ---- a connection that has no ask out

at_true : {A : Type 0} (B : Type 0) (b : Bool) → b ≡ true → A → MatchBool b A B
at_true B true is a = a
at_true B false is a = absurd (let e : false ≡ true = is in cc)

at_false : {B : Type 0} (A : Type 0) (b : Bool) → b ≡ false → B → MatchBool b A B
at_false A true is a = absurd (let e : true ≡ false = is in cc)
at_false A false is a = a

module _ (x : Draw) (lasts : List ℕ) (w : World) (lasts' : List ℕ) (w' : World) where
  -- a reply is awaited
  pub goes_entry : awaits_reply x.connection w.lines ≡ true → Passes w (line.Entry x.connection) w' → lasts' ≡ lasts → GoesOn x lasts w lasts' w'
  goes_entry is passes same = at_true (Asks x lasts w lasts' w') (awaits_reply x.connection w.lines) is (record { same = same; line = passes })

  pub goes_asks : awaits_reply x.connection w.lines ≡ false → Asks x lasts w lasts' w' → GoesOn x lasts w lasts' w'
  goes_asks is h = at_false (Does lasts lasts' (Passes w (line.Entry x.connection) w')) (awaits_reply x.connection w.lines) is h

  pub asks_pings : is_ping (wish_of x.kind) ≡ true → Pings x lasts w lasts' w' → Asks x lasts w lasts' w'
  asks_pings is h = at_true (Sends x lasts w lasts' w') (is_ping (wish_of x.kind)) is h

  pub asks_sends : is_ping (wish_of x.kind) ≡ false → Sends x lasts w lasts' w' → Asks x lasts w lasts' w'
  asks_sends is h = at_false (Pings x lasts w lasts' w') (is_ping (wish_of x.kind)) is h

  pub pings_entry : fault w (line.Entry x.connection) ≡ None → Passes w (line.Entry x.connection) w' → lasts' ≡ lasts → Pings x lasts w lasts' w'
  pings_entry is passes same = subst (PingsBy x lasts w lasts' w') (sym is) (record { same = same; line = passes })

  pub pings_sends : (why : Why) → fault w (line.Entry x.connection) ≡ Some why → Sends x lasts w lasts' w' → Pings x lasts w lasts' w'
  pings_sends why is h = subst (PingsBy x lasts w lasts' w') (sym is) h
