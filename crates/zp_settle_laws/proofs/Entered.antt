-- An entry that a connection takes while its reply waits brings its cursor on.
use Rattle.std.proofs.Common.{◌≡◌, ℕ, suc, ◌+◌, ◌≤◌, ◌<◌, List, [], length, refl, sym, ap, ◌∙◌, subst, arith, Bool, true, false, ℤ, pos, negsuc, inl, inr}
use Rattle.std.specs.Arc.{arc_value}
use Rattle.std.specs.Ordering.{int_eq}
use Rattle.std.specs.Prelude.{Option, Some, None, ◌⊎◌, if◌then◌else◌, nat_abs, option_and_then, take}
use Rattle.std.proofs.lemmas.Bool.Decides.{Decides-int_eq}
use Rattle.std.proofs.lemmas.Int.{ints}
use Rattle.std.proofs.lemmas.Option.{slice_get_within}
use Rattle.zk_jute.specs.Requests.{Frame, NoHeader, Unreadable, Unknown, Asks, read_request}
use Rattle.zk_least.proofs.Rising.{at-line, not-below}
use Rattle.zk_model.specs.Watches.{is_unarmed, no_watches}
use Rattle.zk_service.proofs.PlainReplies.{plain-none}
use Rattle.zk_service.specs.Answers.{Told, plain_reply, xid_of}
use Rattle.zk_transcript.specs.History.{state_at}
use Rattle.zn_layout.specs.declared.entry.Entry.{Entry}
use Rattle.zn_view.specs.Asks.{head_want}
use Rattle.zn_view.specs.Seen.{empty_view}
use Rattle.zs_session.specs.Alive.{is_alive_due}
use Rattle.zx_base.proofs.Options.{none_some}
use Rattle.zp_laws.proofs.Strides.{placed}
use Rattle.zp_step.specs.Stages.{is_served, Core, Pending, Stage, Unconnected, Connecting, Ready, KeepingAlive, Checking, Reading, Committing, Waiting, Shut, wanted_in, wants_of}
use Rattle.zp_laws.specs.Inputs.{IsTrueEntry}
use Rattle.zp_laws.specs.Standing.{Knows}
use Rattle.zn_view.specs.Keeping.{update_path}
use Rattle.zp_step.specs.Looking.{Looks, asks_for, decided, max_ranges}
use Rattle.zp_step.proofs.Beside.{PlansBeside, first-or-anew}
use Rattle.zn_view.specs.declared.plan.Decision.TheVariants.{Planned}
use Rattle.zp_step.proofs.Shutting.{steps-open}
use Rattle.zp_step.specs.Entries.{entered, then_reply, told_entry}
use Rattle.zp_step.specs.Keepalives.{TakesUp, keeps_alive}
use Rattle.zp_step.specs.Replies.{Is, is_due, replied}
use Rattle.zp_step.specs.Steps.{Goes, StepsOpen, rests, takes}
use Rattle.zp_step.specs.Taking.{TakesFrame, TakesReadable, plainly}
use Rattle.zp_step.specs.declared.action.Action.{Action}
use Rattle.zp_step.specs.declared.input.Input.{Input}
use Rattle.zp_step.specs.declared.input.Input.TheVariants as input
use Rattle.zp_script.specs.Effects.{IsEntry}
use Rattle.zp_script.specs.Faults.{flight_at}
use Rattle.zp_script.specs.Entries.{cursor_at, cursor_of, cursor_wanted, entry_after, next_entry}
use Rattle.zp_script.specs.Handing.{Handed}
use Rattle.zp_script.specs.Worlds.{Conn, Connection, World, conn_at}
use Rattle.zp_script.specs.declared.flight.Flight.{Flight}
use Rattle.zp_world_laws.proofs.Arrivals.{core-of}
use Rattle.zp_world_laws.proofs.Entering.{next-true}
use Rattle.zp_world_laws.specs.Accounting.{IsAccounted}
use Rattle.zp_world_laws.specs.Connections.{IsServingConn}
use Rattle.zp_settle_laws.proofs.Answered.{entry-then}
use Rattle.zp_settle_laws.proofs.Lasting.{ConnLeft, Left, LeftBy, left-at, still-served, step-left}
use Rattle.zx_base.proofs.Booleans.{either}

-- ---- frames that are taken up leave the cursor

is-cursor : (x : Core × List Action) (c c' : Core) (out : List Action) → x.0.cursor ≡ c.cursor → Is x c' out → c'.cursor ≡ c.cursor
is-cursor x c c' out e i = ap (λ (d : Core). d.cursor) i.0 ∙ e

readable-cursor : (c c' : Core) (now : ℕ) (out : List Action) (x : Frame) (o : Option Told) → plain_reply c.watches x ≡ o → TakesReadable c now c' out x o → c'.cursor ≡ c.cursor
readable-cursor c c' now out x (Some t) p h = is-cursor (plainly c (xid_of x) t) c c' out refl h
readable-cursor c c' now out NoHeader None p h = absurd h
readable-cursor c c' now out (Unreadable xid place) None p h = absurd h
readable-cursor c c' now out (Unknown xid kind) None p h = absurd h
readable-cursor c c' now out (Asks xid r) None p h = go (first-or-anew c c' xid r now out (update_path r) h)
  where
    go : PlansBeside c xid r now c' out ⊎ Looks c xid r empty_view now c' out → c'.cursor ≡ c.cursor
    go (inl y) = is-cursor (decided (record c { views = y.views }) xid r y.view now (Planned y.plan)) c c' out refl y.is
    go (inr (inl y)) = is-cursor (asks_for c xid r empty_view (take max_ranges y.lacking)) c c' out refl y.is
    go (inr (inr (inl y))) = absurd (let begun : true ≡ false = (y.may).begun in cc)
    go (inr (inr (inr y))) = absurd (y.whole.enough refl (plain-none c.watches no_watches (Asks xid r) p) head_want (inl refl) refl)

takes-cursor : (c c' : Core) (bytes : List ℕ) (now : ℕ) (out : List Action) → TakesFrame c bytes now c' out → c'.cursor ≡ c.cursor
takes-cursor c c' bytes now out h = readable-cursor c c' now out (read_request bytes) (plain_reply c.watches (read_request bytes)) refl h

takes_up-cursor : (c c' : Core) (bytes : List ℕ) (now : ℕ) (out : List Action) → TakesUp c bytes now c' out → c'.cursor ≡ c.cursor
takes_up-cursor c c' bytes now out h =
    either (is_alive_due c.kept now c.timeout) (Is (keeps_alive c bytes now) c' out) (TakesFrame c bytes now c' out) (c'.cursor ≡ c.cursor) h (is-cursor (keeps_alive c bytes now) c c' out refl) (takes-cursor c c' bytes now out)

goes-cursor : (now : ℕ) (c c' : Core) (out : List Action) → Goes now c c' out → c'.cursor ≡ c.cursor
goes-cursor now c c' out (rests why same none) = ap (λ (d : Core). d.cursor) same
goes-cursor now c c' out (takes d frame more first later ready w t g o) = goes-cursor now d c' later g ∙ takes_up-cursor (record c { waiting = more }) d frame now first t

-- ---- the entry brings it on

same-due : (core : Core) (p : Pending) (b : Bool) → core.cursor ≡ p.number → (if b then true else int_eq core.cursor p.number) ≡ true
same-due core p true e = refl
same-due core p false e = (Decides-int_eq core.cursor p.number).1 e

module _ (w : World) (c : ℕ) (core : Core) (flight : Option Flight) (h : IsAccounted w) (k : IsServingConn w.store w.lines c core flight) (e : Entry) (t : IsTrueEntry w.lines core e) where
  entered-on : nat_abs core.cursor + 1 ≤ nat_abs e.number
  entered-on =
      let at = placed w.lines core k.walker ((h.whole.holds).serves).legal (k.stands).matches in
      omega (arith, ints, t.next, at.cursor)

  -- a reply that waits has a number after the cursor
  reply-on : (p : Pending) → core.stage ≡ Waiting p → nat_abs core.cursor + 1 ≤ nat_abs p.number
  reply-on p st =
      let legal = ((h.whole.holds).serves).legal in
      let at = placed w.lines core k.walker legal (k.stands).matches in
      let knows : Knows w.store w.lines c core k.walker k.looked (Waiting p) = subst (Knows w.store w.lines c core k.walker k.looked) st (k.stands).knows in
      let m = (knows.0).moment in
      let raised = at-line w.lines at.line at.update legal at.shown in
      let up = not-below w.lines (at.line + 1) k.looked legal (omega (arith, at.since, m.told)) (omega (arith, raised.updates)) in
      apart at.line at.cursor ((knows.0).number) up.0 knows.1
    where
      apart : (line : ℕ) → core.cursor ≡ pos (state_at w.lines (line + 1)).updates → pos (state_at w.lines k.looked).updates ≡ p.number → (state_at w.lines (line + 1)).updates ≤ (state_at w.lines k.looked).updates → is_due core p ≡ false → nat_abs core.cursor + 1 ≤ nat_abs p.number
      apart line cursor number up late = go (nat_either (state_at w.lines (line + 1)).updates (state_at w.lines k.looked).updates)
        where
          nat_either : (a b : ℕ) → (a ≡ b) ⊎ ((a < b) ⊎ (b < a))
          nat_either a b = grind arith

          go : ((state_at w.lines (line + 1)).updates ≡ (state_at w.lines k.looked).updates) ⊎ (((state_at w.lines (line + 1)).updates < (state_at w.lines k.looked).updates) ⊎ ((state_at w.lines k.looked).updates < (state_at w.lines (line + 1)).updates)) → nat_abs core.cursor + 1 ≤ nat_abs p.number
          go (inl same) = (let due = same-due core p (is_unarmed core.watches) (cursor ∙ ap pos same ∙ number) in absurd (let f : true ≡ false = sym due ∙ late in cc))
          go (inr (inl less)) = omega (arith, ints, cursor, number, less)
          go (inr (inr more)) = absurd (omega (arith, up, more))

  waited-on : (p : Pending) → core.stage ≡ Waiting p → (b : Bool) → nat_abs core.cursor + 1 ≤ nat_abs ((if b then replied (entered core e).0 p else (record (entered core e).0 { stage = Waiting p }, [])).0).cursor
  waited-on p st true = reply-on p st
  waited-on p st false = entered-on

  told-on : (st : Stage) → core.stage ≡ st → nat_abs core.cursor + 1 ≤ nat_abs ((then_reply (entered core e) st).0).cursor
  told-on (Waiting p) st = waited-on p st (is_due (entered core e).0 p)
  told-on (Unconnected f) st = entered-on
  told-on (Connecting f) st = entered-on
  told-on Ready st = entered-on
  told-on (KeepingAlive f) st = entered-on
  told-on (Checking f) st = entered-on
  told-on (Reading xid r v ws) st = entered-on
  told-on (Committing xid r v p m) st = entered-on
  told-on Shut st = entered-on

  pub step-on : (x : _) (now : ℕ) (next : Core) (out : List Action) → arc_value x ≡ e → StepsOpen core (input.Entry x) now next out → nat_abs core.cursor + 1 ≤ nat_abs next.cursor
  step-on x now next out is s =
      let mid : s.mid.cursor ≡ ((told_entry core (arc_value x)).0).cursor = ap (λ (d : Core). d.cursor) (s.handled).0 in
      let on : nat_abs core.cursor + 1 ≤ nat_abs ((told_entry core (arc_value x)).0).cursor = subst (λ y. nat_abs core.cursor + 1 ≤ nat_abs ((told_entry core y).0).cursor) (sym is) (told-on core.stage refl) in
      omega (arith, on, ap nat_abs (goes-cursor now s.mid next s.later s.goes ∙ mid))

-- ---- a line

-- it waits for one in these stages alone
awaits-served : (core : Core) (st : Stage) (z : ℤ) → cursor_wanted (wanted_in core st) ≡ Some z → is_served st ≡ true
awaits-served core Ready z h = refl
awaits-served core (Waiting p) z h = refl
awaits-served core (Unconnected f) z h = absurd (none_some h)
awaits-served core (Connecting f) z h = absurd (none_some h)
awaits-served core (KeepingAlive f) z h = absurd (none_some h)
awaits-served core (Checking f) z h = absurd (none_some h)
awaits-served core (Reading xid q v ws) z h = absurd (none_some h)
awaits-served core (Committing xid q v p m) z h = absurd (none_some h)
awaits-served core Shut z h = absurd (none_some h)

-- what it wants comes of its stage
pub wanted-served : (w : World) (c : ℕ) (x : Conn) (core : Core) (e : Entry) → conn_at c w ≡ Some x → x.actor ≡ Connection core → next_entry c w ≡ Some e → is_served core.stage ≡ true
wanted-served w c x core e there actor next = go (cursor_wanted (wants_of core)) refl (sym (ap (option_and_then (entry_after w.entries)) wanted) ∙ next)
  where
    wanted : cursor_at c w ≡ cursor_wanted (wants_of core)
    wanted = ap (option_and_then (λ (y : Conn). cursor_of y.actor)) there ∙ ap cursor_of actor

    go : (o : Option ℤ) → cursor_wanted (wants_of core) ≡ o → option_and_then (entry_after w.entries) o ≡ Some e → is_served core.stage ≡ true
    go None f g = absurd (none_some g)
    go (Some z) f g = awaits-served core core.stage z f

-- an entry that is there has a number after the cursor
pub after-cursor : (w : World) (c : ℕ) (core : Core) (e : Entry) → IsAccounted w → next_entry c w ≡ Some e → IsTrueEntry w.lines core e → nat_abs core.cursor + 1 ≤ length w.entries
after-cursor w c core e h next t = go (cursor_at c w) next
  where
    at : (z : ℤ) → entry_after w.entries z ≡ Some e → nat_abs core.cursor + 1 ≤ length w.entries
    at (pos n) f = (let each = (h.entries).each n e f in omega (arith, ints, slice_get_within w.entries n e f, each.1, t.next))
    at (negsuc n) f = absurd (none_some f)

    go : (o : Option ℤ) → option_and_then (entry_after w.entries) o ≡ Some e → nat_abs core.cursor + 1 ≤ length w.entries
    go None f = absurd (none_some f)
    go (Some z) f = at z f

module _ (w w' : World) (c j : ℕ) (e : Entry) (next : next_entry c w ≡ Some e) (idle : flight_at c w ≡ None) (k : IsAccounted w) (l : Left c w (suc j)) where
  entered-left : (s : _) → arc_value s ≡ e → Handed c [] w (input.Entry s) w' → Left c w' j
  entered-left s is hd =
      let served = wanted-served w c hd.conn hd.core e hd.found hd.serving next in
      let serves = (k.whole).serving c hd.conn hd.core hd.found hd.serving served in
      let t = next-true w c hd.conn hd.core e hd.found hd.serving serves k.entries next in
      let still : hd.conn.flight ≡ None = sym (ap (option_and_then (λ (y : Conn). y.flight)) hd.found) ∙ idle in
      let left : ConnLeft w.store (length w.entries) hd.core None (suc j) = subst (λ f. ConnLeft w.store (length w.entries) hd.core f (suc j)) still (subst (λ b. LeftBy w hd.conn b (suc j)) hd.serving (left-at c w hd.conn (suc j) hd.found l)) in
      let opens = (k.whole).unshut c hd.conn hd.core hd.found hd.serving in
      let stepped = steps-open hd.core hd.next (input.Entry s) w.clock hd.out opens hd.stepped in
      let on = step-on w c hd.core hd.conn.flight k serves e t s w.clock hd.next hd.out is stepped in
      let frames = (core-of w c hd.conn hd.core k.known hd.found hd.serving).0 in
      step-left w w' c (input.Entry s) hd still left.total j (entry-then w.store left.total hd.core hd.next s w.clock hd.out left.left stepped) (λ going. (
      let then_served = still-served w c hd.conn hd.core hd.next (input.Entry s) hd.out k hd.found hd.serving hd.stepped frames refl served going in
      let most = left.most in
      omega (arith, most, on, ap (λ b. if b then nat_abs hd.core.cursor else 0) served, ap (λ b. if b then nat_abs hd.next.cursor else 0) then_served)
      ))

  pub taken-left : (i : Input) → IsEntry e i → Handed c [] w i w' → Left c w' j
  taken-left (input.Entry s) is hd = entered-left s is hd
  taken-left (input.Frame b) is hd = absurd is
  taken-left (input.Answer a) is hd = absurd is
  taken-left input.Failed is hd = absurd is
  taken-left (input.BadLength p n) is hd = absurd is
  taken-left (input.Lagged p n) is hd = absurd is
  taken-left input.FeedClosed is hd = absurd is
  taken-left (input.ClientEnd p) is hd = absurd is
