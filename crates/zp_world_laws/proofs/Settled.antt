-- Where settle has nothing to do for a number, its connection is at rest.
use Rattle.std.proofs.Common.{◌≡◌, ℕ, ◌+◌, ◌≤◌, List, length, refl, sym, ap, ◌∙◌, subst, arith, Bool, true, false, pos, inl, inr}
use Rattle.std.specs.Prelude.{Option, Some, None, if◌then◌else◌, is_some}
use Rattle.std.specs.Option.{option_and_then}
use Rattle.std.specs.Ordering.{int_eq}
use Rattle.std.proofs.Math.Seq.{take-length}
use Rattle.std.proofs.lemmas.Bool.Decides.{Decides-int_eq}
use Rattle.std.proofs.lemmas.Option.{slice_get_cases}
use Rattle.zk_least.proofs.Rising.{at-line, not-below}
use Rattle.zk_model.specs.Watches.{is_unarmed}
use Rattle.zk_service.specs.States.{State}
use Rattle.zk_transcript.specs.History.{after, state_at}
use Rattle.zk_transcript.specs.declared.transcript.TranscriptLine.{TranscriptLine}
use Rattle.zn_layout.specs.declared.entry.Entry.{Entry}
use Rattle.zp_script.specs.Entries.{cursor_at, cursor_of, cursor_wanted, entry_after, next_entry}
use Rattle.zp_script.specs.Happens.{entry_line, flight_line, is_waiting, settling, settling_conn, wants_entry}
use Rattle.zp_script.specs.Worlds.{Actor, Closed, Conn, Connection, Reaper, World, conn_at, is_closed_actor}
use Rattle.zp_script.specs.declared.flight.Flight.{Flight}
use Rattle.zp_script.specs.declared.flight.Flight.TheVariants.{Out, Carried, Denied}
use Rattle.zp_laws.proofs.Strides.{placed}
use Rattle.zp_step.specs.Stages.{is_served, Core, Pending, Stage, Unconnected, Connecting, Ready, KeepingAlive, Checking, Reading, Committing, Waiting, Shut, asked_of, is_shut, wanted_in}
use Rattle.zp_laws.specs.Standing.{Knows}
use Rattle.zp_world_laws.proofs.Arrivals.{core-of}
use Rattle.zp_world_laws.proofs.Lives.{known-at}
use Rattle.zp_world_laws.specs.Accounting.{IsAccounted}
use Rattle.zp_world_laws.specs.Connecting.{IsInStage}
use Rattle.zp_world_laws.specs.Connections.{IsFlying, IsServingConn}
use Rattle.zp_world_laws.specs.Counting.{HasFrames}
use Rattle.zp_world_laws.specs.Entering.{AreEntries}
use Rattle.zp_world_laws.specs.Reaping.{IsReapFlight}
use Rattle.zp_world_laws.specs.Settled.{IsAnswered, IsIdle, SettledIsIdle}
use Rattle.zt_text.specs.declared.script.Happening.{Happening}
use Rattle.zt_text.specs.declared.script.Happening.TheVariants as line
use Rattle.zx_base.proofs.Options.{none_some}

-- ---- a reply that waits has an entry to come

same-due : (core : Core) (p : Pending) (b : Bool) → core.cursor ≡ p.number → (if b then true else int_eq core.cursor p.number) ≡ true
same-due core p true e = refl
same-due core p false e = (Decides-int_eq core.cursor p.number).1 e

-- where no entry comes after its cursor, the cursor is at the last one
at-end : (lines : List TranscriptLine) (entries : List Entry) (cursor line looked : ℕ) → AreEntries lines entries → entry_after entries (pos cursor) ≡ None → cursor ≡ (state_at lines (line + 1)).updates
    → (state_at lines (line + 1)).updates ≤ (state_at lines looked).updates → (state_at lines looked).updates ≤ (after lines).updates → (state_at lines looked).updates ≡ cursor
at-end lines entries cursor line looked all none is up most = elim (slice_get_cases entries cursor).1 [
  | inl x ↦ absurd (none_some (sym none ∙ x.2))
  | inr q ↦ omega (arith, q.0, all.count, is, up, most)
]

waits-on : (w : World) (c : ℕ) (core : Core) (p : Pending) (flight : Option Flight) → core.stage ≡ Waiting p → IsAccounted w → IsServingConn w.store w.lines c core flight → entry_after w.entries core.cursor ≡ None → ⊥
waits-on w c core p flight e h k none =
    let legal = (h.whole.holds.serves).legal in
    let at = placed w.lines core k.walker legal (k.stands).matches in
    let knows : Knows w.store w.lines c core k.walker k.looked (Waiting p) = subst (Knows w.store w.lines c core k.walker k.looked) e (k.stands).knows in
    let m = (knows.0).moment in
    let raised = at-line w.lines at.line at.update legal at.shown in
    let up = not-below w.lines (at.line + 1) k.looked legal (omega (arith, at.since, m.told)) (omega (arith, raised.updates)) in
    let end : state_at w.lines (length w.lines) ≡ after w.lines = ap after (take-length w.lines) in
    let most = not-below w.lines k.looked (length w.lines) legal m.past (omega (arith, raised.updates, up.0)) in
    let last = at-end w.lines w.entries (state_at w.lines (at.line + 1)).updates at.line k.looked h.entries (subst (λ z. entry_after w.entries z ≡ None) at.cursor none) refl up.0
    (subst (λ (s : State). (state_at w.lines k.looked).updates ≤ s.updates) end most.0) in
    let due = same-due core p (is_unarmed core.watches) (at.cursor ∙ ap pos (sym last) ∙ (knows.0).number) in
    (let f : true ≡ false = sym due ∙ knows.1 in absurd (cc))

-- ---- where settle has nothing to do

module _ (w : World) (c : ℕ) (x : Conn) (h : IsAccounted w) (there : conn_at c w ≡ Some x) (done : settling c w ≡ None) where
  done-here : settling_conn c w (Some x) ≡ None
  done-here = sym (ap (settling_conn c w) there) ∙ done

  lineless : (b : Bool) (o : Option Happening) → b ≡ false → (if b then None else o) ≡ None → o ≡ None
  lineless true o e f = absurd (cc)
  lineless false o e f = f

  none-out : (f : Option Flight) → flight_line c w x f ≡ None → f ≡ None
  none-out None e = refl
  none-out (Some (Out a)) e = absurd (none_some (sym e))
  none-out (Some (Carried a)) e = absurd (none_some (sym e))
  none-out (Some Denied) e = absurd (none_some (sym e))

  module _ (open_now : is_closed_actor x.actor ≡ false) where
    no-line : flight_line c w x x.flight ≡ None
    no-line = lineless (is_closed_actor x.actor) (flight_line c w x x.flight) open_now done-here

    idle : x.flight ≡ None
    idle = none-out x.flight no-line

    no-entry-line : entry_line c w x ≡ None
    no-entry-line = sym (ap (flight_line c w x) idle) ∙ no-line

  module _ (core : Core) (actor : x.actor ≡ Connection core) where
    open_now : is_closed_actor x.actor ≡ false
    open_now = ap is_closed_actor actor

    known : HasFrames w.lines c x.frames core × IsInStage w.store w.lines c core x.flight core.stage
    known = core-of w c x core h.known there actor

    busy : (st : Stage) → core.stage ≡ st → is_served st ≡ true → asked_of core.who st ≡ None
    busy st e served =
        let k = h.whole.serving c x core there actor (ap is_served e ∙ served) in
        ap (asked_of core.who) (sym e) ∙ subst (IsFlying w.store w.lines c core k.walker k.looked) (idle open_now) k.flies

    awaited : (b : Bool) (o : Option Entry) → b ≡ true → (if b then (if is_some o then Some (line.Entry c) else None) else None) ≡ None → o ≡ None
    awaited true None e f = refl
    awaited true (Some y) e f = absurd (none_some (sym f))
    awaited false o e f = absurd (cc)

    waits : (p : Pending) → core.stage ≡ Waiting p → ⊥
    waits p e =
        let k = h.whole.serving c x core there actor (ap is_served e) in
        let waiting : is_waiting x.actor ≡ true = ap is_waiting actor ∙ ap (λ st. wants_entry (wanted_in core st)) e in
        let none = awaited (is_waiting x.actor) (next_entry c w) waiting (no-entry-line open_now) in
        let cursor : cursor_at c w ≡ Some core.cursor = ap (option_and_then (λ (y : Conn). cursor_of y.actor)) there ∙ ap cursor_of actor ∙ ap (λ st. cursor_wanted (wanted_in core st)) e in
        waits-on w c core p x.flight e h k (sym (ap (option_and_then (entry_after w.entries)) cursor) ∙ none)

    answered : (st : Stage) → core.stage ≡ st → IsInStage w.store w.lines c core None st → IsAnswered core st
    answered (Unconnected fresh) e k = (k.0).none_waits
    answered (Connecting y) e k = absurd k.flies
    answered Ready e k = (known.0).rested e
    answered (KeepingAlive f) e k = absurd (none_some (sym (busy (KeepingAlive f) e refl)))
    answered (Checking f) e k = absurd (none_some (sym (busy (Checking f) e refl)))
    answered (Reading xid r v ws) e k = absurd (none_some (sym (busy (Reading xid r v ws) e refl)))
    answered (Committing xid r v p m) e k = absurd (none_some (sym (busy (Committing xid r v p m) e refl)))
    answered (Waiting p) e k = absurd (waits p e)
    answered Shut e k = (let f : true ≡ false = sym (ap is_shut e) ∙ h.whole.unshut c x core there actor in absurd (cc))

    rests : (x.flight ≡ None) × IsAnswered core core.stage
    rests = (idle open_now, answered core.stage refl (subst (λ f. IsInStage w.store w.lines c core f core.stage) (idle open_now) known.1))

  by-actor : (a : Actor) → x.actor ≡ a → IsIdle x a
  by-actor (Connection core) e = rests core e
  by-actor (Reaper r) e = absurd (subst (IsReapFlight w.store r) (idle (ap is_closed_actor e)) (known-at w c x (Reaper r) h.known there e))
  by-actor Closed e = tt

pub settled-idle : SettledIsIdle
settled-idle w c x h there done = by-actor w c x h there done x.actor refl
