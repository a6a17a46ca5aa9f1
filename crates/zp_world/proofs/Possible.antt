-- What the tests of a line say where they pass.
use Rattle.std.proofs.Common.{◌≡◌, ℕ, ℤ, refl, sym, ap, ◌∙◌, subst, Bool, true, false}
use Rattle.std.specs.Prelude.{Option, Some, None, is_none, is_some, not}
use Rattle.std.specs.Option.{option_and_then}
use Rattle.ev_types.specs.declared.ask.Ask.{Ask}
use Rattle.ev_types.specs.declared.answer.Answer.{Answer}
use Rattle.zn_layout.specs.declared.entry.Entry.{Entry}
use Rattle.zp_script.specs.declared.flight.Asking.{Asking}
use Rattle.zp_script.specs.declared.flight.Flight.{Flight}
use Rattle.zp_script.specs.declared.flight.Flight.TheVariants.{Out}
use Rattle.zp_script.specs.Entries.{cursor_at, entry_after, is_lagging, next_entry}
use Rattle.zp_script.specs.Faults.{ask_fault, carry_fault, connection_fault, entry_fault, fault, flight_at, if_fails, is_reaper_at, is_to_carry_out, new_fault, open_fault}
use Rattle.zp_script.specs.Worlds.{Actor, Closed, Conn, Connection, Reaper, World, conn_at, is_closed_actor, is_reaper}
use Rattle.zp_step.specs.Stages.{Core}
use Rattle.zs_session.specs.Answering.{IsAwaited}
use Rattle.zt_text.specs.declared.script.Happening.TheVariants as line
use Rattle.zt_text.specs.declared.script.Why.{Why}
use Rattle.zt_text.specs.declared.script.Why.TheVariants as why
use Rattle.zx_base.proofs.Options.{none_some, some_is, some_none, none-unless_some}

-- ---- one test

pub passes : (b : Bool) (x : Why) (later : Option Why) → if_fails b x later ≡ None → (b ≡ false) × (later ≡ None)
passes true x later h = absurd (some_none h)
passes false x later h = (refl, h)

-- ---- nothing has the number

unused : (o : Option Conn) → if_fails (is_some o) why.NumberInUse None ≡ None → o ≡ None
unused None h = refl
unused (Some x) h = absurd (some_none h)

pub new-free : (c : ℕ) (w : World) → new_fault c w None ≡ None → conn_at c w ≡ None
new-free c w h = unused (conn_at c w) h

-- ---- there is one of the number, and it is open

pub record IsOpenAt (c : ℕ) (w : World) : Type 0 where
  pub conn : Conn
  pub found : conn_at c w ≡ Some conn
  pub live : is_closed_actor conn.actor ≡ false

abbrev open_test : Option Why → Option Conn → Option Why
open_test later o = elim o [ None ↦ Some why.NoSuchConnection | Some x ↦ if_fails (is_closed_actor x.actor) why.ConnectionClosed later ]

opened-at : (c : ℕ) (w : World) (later : Option Why) (o : Option Conn) → conn_at c w ≡ o → open_test later o ≡ None → IsOpenAt c w × (later ≡ None)
opened-at c w later None found h = absurd (some_none h)
opened-at c w later (Some x) found h = let p = passes (is_closed_actor x.actor) why.ConnectionClosed later h in (record { conn = x; found = found; live = p.0 }, p.1)

pub open-passes : (c : ℕ) (w : World) (later : Option Why) → open_fault c w later ≡ None → IsOpenAt c w × (later ≡ None)
open-passes c w later h = opened-at c w later (conn_at c w) refl h

-- ---- there is an open connection of the number

pub record IsServing (c : ℕ) (w : World) : Type 0 where
  pub conn : Conn
  pub core : Core
  pub found : conn_at c w ≡ Some conn
  pub serving : conn.actor ≡ Connection core

serves : (a : Actor) → is_closed_actor a ≡ false → is_reaper a ≡ false → (core : Core) × (a ≡ Connection core)
serves (Connection core) h k = (core, refl)
serves (Reaper reap) h k = absurd (let e : true ≡ false = k in cc)
serves Closed h k = absurd (let e : true ≡ false = h in cc)

abbrev reaper_test : Option Conn → Bool
reaper_test o = elim o [ None ↦ false | Some y ↦ is_reaper y.actor ]

pub reaper-is : (c : ℕ) (w : World) (x : Conn) → conn_at c w ≡ Some x → is_reaper_at c w ≡ is_reaper x.actor
reaper-is c w x there = ap reaper_test there

pub connection-serves : (c : ℕ) (w : World) (later : Option Why) → connection_fault c w later ≡ None → IsServing c w × (later ≡ None)
connection-serves c w later h =
    let o = open-passes c w (if_fails (is_reaper_at c w) why.NotAConnection later) h in
    let p = passes (is_reaper_at c w) why.NotAConnection later o.1 in
    let s = serves o.0.conn.actor o.0.live (sym (reaper-is c w o.0.conn o.0.found) ∙ p.0) in
    (record { conn = o.0.conn; core = s.0; found = o.0.found; serving = s.1 }, p.1)

pub end-serves : (c : ℕ) (w : World) → fault w (line.End c) ≡ None → IsServing c w
unfolding fault
end-serves c w h = (connection-serves c w None h).0

-- ---- an ask is out

pub record IsOutAt (c : ℕ) (w : World) : Type 0 where
  pub conn : Conn
  pub flight : Flight
  pub found : conn_at c w ≡ Some conn
  pub live : is_closed_actor conn.actor ≡ false
  pub out : conn.flight ≡ Some flight

there-is : {A : Type 0} (o : Option A) → is_none o ≡ false → (x : A) × (o ≡ Some x)
there-is None h = absurd (let e : true ≡ false = h in cc)
there-is (Some x) h = (x, refl)

pub flight-is : (c : ℕ) (w : World) (x : Conn) → conn_at c w ≡ Some x → flight_at c w ≡ x.flight
flight-is c w x there = ap (option_and_then (λ (y : Conn). y.flight)) there

pub ask-out : (c : ℕ) (w : World) (later : Option Why) → ask_fault c w later ≡ None → IsOutAt c w × (later ≡ None)
ask-out c w later h =
    let o = open-passes c w (if_fails (is_none (flight_at c w)) why.NoRequestOut later) h in
    let p = passes (is_none (flight_at c w)) why.NoRequestOut later o.1 in
    let f = there-is o.0.conn.flight (ap is_none (sym (flight-is c w o.0.conn o.0.found)) ∙ p.0) in
    (record { conn = o.0.conn; flight = f.0; found = o.0.found; live = o.0.live; out = f.1 }, p.1)

-- the ask of the one that is there
pub out-of : (c : ℕ) (w : World) (x : Conn) → IsOutAt c w → conn_at c w ≡ Some x → (is_closed_actor x.actor ≡ false) × (f : Flight) × (x.flight ≡ Some f)
out-of c w x o there =
    let e : o.conn ≡ x = some_is (sym o.found ∙ there) in
    (subst (λ (y : Conn). is_closed_actor y.actor ≡ false) e o.live, o.flight, subst (λ (y : Conn). y.flight ≡ Some o.flight) e o.out)

-- the test that something of the number is open passes
pub open-allowed : (c : ℕ) (w : World) (x : Conn) (later : Option Why) → conn_at c w ≡ Some x → is_closed_actor x.actor ≡ false → open_fault c w later ≡ later
open-allowed c w x later there live =
    ap (open_test later) there ∙ ap (λ b. if_fails b why.ConnectionClosed later) live

pub carry-asks : (c : ℕ) (w : World) → carry_fault c w ≡ None → ask_fault c w None ≡ None
carry-asks c w h =
    let o = (ask-out c w (if_fails (not (is_to_carry_out (flight_at c w))) why.AlreadyCarriedOut None) h).0 in
    open-allowed c w o.conn (if_fails (is_none (flight_at c w)) why.NoRequestOut None) o.found o.live
    ∙ ap (λ (f : Option Flight). if_fails (is_none f) why.NoRequestOut None) (flight-is c w o.conn o.found ∙ o.out)

carried-out : (f : Option Flight) → if_fails (is_to_carry_out f) why.NotCarriedOut None ≡ None → (asking : Asking) → f ≡ Some (Out asking) → ⊥
carried-out f h asking e = some_none (sym (ap (λ (g : Option Flight). if_fails (is_to_carry_out g) why.NotCarriedOut None) e) ∙ h)

pub answer-out : (c : ℕ) (w : World) → fault w (line.Answer c) ≡ None → IsOutAt c w
unfolding fault
answer-out c w h = (ask-out c w (if_fails (is_to_carry_out (flight_at c w)) why.NotCarriedOut None) h).0

-- an answer is delivered only of an ask that was carried out
pub answer-carried : (c : ℕ) (w : World) (x : Conn) (asking : Asking) → fault w (line.Answer c) ≡ None → conn_at c w ≡ Some x → x.flight ≡ Some (Out asking) → ⊥
unfolding fault
answer-carried c w x asking h there e =
    carried-out (flight_at c w) (ask-out c w (if_fails (is_to_carry_out (flight_at c w)) why.NotCarriedOut None) h).1 asking (flight-is c w x there ∙ e)

pub answer-flies : (c : ℕ) (w : World) (x : Conn) → fault w (line.Answer c) ≡ None → conn_at c w ≡ Some x → x.flight ≡ None → ⊥
answer-flies c w x h there none = none_some (sym none ∙ (out-of c w x (answer-out c w h) there).2)

-- ---- an entry may be taken

pub record IsEntered (c : ℕ) (w : World) : Type 0 where
  pub serving : IsServing c w
  pub free : flight_at c w ≡ None
  pub entry : Entry
  pub next : next_entry c w ≡ Some entry

pub entry-taken : (c : ℕ) (w : World) (later : Option Why) → entry_fault c w later ≡ None → IsEntered c w × (later ≡ None)
entry-taken c w later h =
    let s = connection-serves c w (if_fails (is_some (flight_at c w)) why.RequestOut (if_fails (is_none (next_entry c w)) why.NoEntry later)) h in
    let p = passes (is_some (flight_at c w)) why.RequestOut (if_fails (is_none (next_entry c w)) why.NoEntry later) s.1 in
    let q = passes (is_none (next_entry c w)) why.NoEntry later p.1 in
    let e = there-is (next_entry c w) q.0 in
    (record { serving = s.0; free = none-unless_some (flight_at c w) p.0; entry = e.0; next = e.1 }, q.1)

pub entry-serves : (c : ℕ) (w : World) → fault w (line.Entry c) ≡ None → IsEntered c w
unfolding fault
entry-serves c w h = (entry-taken c w None h).0

lags : (b : Bool) → if_fails (not b) why.NoLag None ≡ None → b ≡ true
lags true h = refl
lags false h = absurd (some_none h)

pub lag-serves : (c : ℕ) (w : World) → fault w (line.Lag c) ≡ None → IsEntered c w × (is_lagging c w ≡ true)
unfolding fault
lag-serves c w h = let e = entry-taken c w (if_fails (not (is_lagging c w)) why.NoLag None) h in (e.0, lags (is_lagging c w) e.1)

pub next-is : (c : ℕ) (w : World) (o : Option ℤ) → cursor_at c w ≡ o → next_entry c w ≡ option_and_then (entry_after w.entries) o
next-is c w o e = ap (option_and_then (entry_after w.entries)) e

-- there is a cursor
pub entry-cursor : (c : ℕ) (w : World) → IsEntered c w → cursor_at c w ≡ None → ⊥
entry-cursor c w e none = none_some (sym (next-is c w None none) ∙ e.next)

-- there is an entry after the cursor
pub entry-missing : (c : ℕ) (w : World) (cursor : ℤ) → IsEntered c w → cursor_at c w ≡ Some cursor → entry_after w.entries cursor ≡ None → ⊥
entry-missing c w cursor e at none = none_some (sym (next-is c w (Some cursor) at ∙ none) ∙ e.next)

-- ---- what is out

awaited-none : (o : Option Ask) (a : Answer) → o ≡ None → IsAwaited o (Some a) → ⊥
awaited-none None a e h = h
awaited-none (Some q) a e h = some_none e
