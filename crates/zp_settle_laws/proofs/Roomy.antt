-- What each line of a script keeps: the store is a script's, a round looks up few things at once, and what an attached connection asked
-- was denied by a full store alone.
use Rattle.ev_types.specs.Denials.{carry}
use Rattle.ev_types.specs.Lapses.{foreign, lapse}
use Rattle.ev_types.specs.Store.{Store, last_revision, max_revisions, new_store, revision}
use Rattle.ev_types.specs.declared.answer.Answer.{Answer}
use Rattle.ev_types.specs.declared.ask.Ask.{Ask}
use Rattle.std.proofs.Common.{Bool, List, [], ap, arith, false, inl, inr, length, refl, subst, sym, true, ℕ, ℤ, zero, suc, ◌+◌, ◌-◌, ◌∙◌, ◌∷◌, ◌≡◌, ◌<◌, ◌≤◌}
use Rattle.std.proofs.lemmas.Int.{ints}
use Rattle.std.specs.Arc.{arc_value}
use Rattle.std.specs.FinMap.{entries, get, get-empty}
use Rattle.std.specs.Ordering.{nat_cmp}
use Rattle.std.specs.Prelude.{All, MatchBool, None, Option, Some, fold, if◌then◌else◌, slice_set, ◌<ℤ◌, ◌≤ℤ◌, ◌⊎◌}
use Rattle.std.proofs.lemmas.List.Elements.{All-head, All-tail}
use Rattle.zk_jute.specs.JuteWriting.{with_length}
use Rattle.zk_transcript.specs.Legal.{Tick}
use Rattle.zk_service.specs.declared.cause.Cause.TheVariants as cause
use Rattle.zk_service.specs.declared.cause.Cause.{Cause}
use Rattle.zk_transcript.specs.declared.transcript.TranscriptLine.{TranscriptLine}
use Rattle.zk_service.specs.declared.update.UpdateKind.{UpdateKind}
use Rattle.zn_layout.specs.Begin.{begin_ask}
use Rattle.zn_layout.specs.declared.entry.Entry.{Entry}
use Rattle.zs_reap.specs.declared.reap.Reap.{Reap}
use Rattle.zk_service.specs.declared.fresh.Fresh.{Fresh}
use Rattle.zt_text.specs.declared.script.Happening.TheVariants as line
use Rattle.zt_text.specs.declared.script.Happening.{Happening}
use Rattle.zx_base.proofs.Options.{none_some, some_is}
use Rattle.zp_step.proofs.Ending.{steps_end_well}
use Rattle.zp_step.specs.Ending.{closes, ends_well}
use Rattle.zp_step.specs.Stages.{is_served, Core, Stage, Unconnected, Connecting, Ready, KeepingAlive, Checking, Reading, Committing, Waiting, Shut, asked_of, counted_up, is_shut, new_core}
use Rattle.zp_step.proofs.Shutting.{ends-named, goes-still, shut-for-good, steps-open}
use Rattle.zp_step.specs.Entries.{entered, then_reply}
use Rattle.zp_step.specs.Laws.{end_by}
use Rattle.zp_step.specs.Steps.{Steps as CoreSteps}
use Rattle.zp_step.specs.declared.action.Action.TheVariants as action
use Rattle.zp_step.specs.declared.action.Action.{Action}
use Rattle.zp_step.specs.declared.input.Input.TheVariants as input
use Rattle.zp_step.specs.declared.input.Input.{Input}
use Rattle.zp_script.specs.Arriving.{Arrives, EndsBadly, FramesArrive, frame_lines, shown_frame}
use Rattle.zp_script.specs.Carrying.{CarriedBy, Executes, ExecutesStray}
use Rattle.zp_script.specs.Effects.{Delivers, Does, EndsBy, EntersBy, IsEntry, LagsBy, LapsesTo, PutTo, is_open_at, new_conn, new_reap, new_reaper, opened, restarted, stopped}
use Rattle.zp_script.specs.Entries.{cursor_at, next_entry}
use Rattle.zp_script.specs.Faults.{flight_at}
use Rattle.zp_script.specs.Handing.{AnswerComesTo, FailureComesTo, Handed, Reaps, landed, landed_conn}
use Rattle.zp_script.specs.Happens.{Effect, Happens, Settles, max_settling, settling}
use Rattle.zp_script.specs.Kinds.{kind_asked}
use Rattle.zp_script.specs.Runs.{IsFirst, Runs, RunsFrom, world_over}
use Rattle.zp_script.specs.StepOutcomes.{StepOutcome, acts, acts_all, ended_by, leaves, quiet, reap_acts}
use Rattle.zp_script.specs.Worlds.{Actor, Closed, Conn, Connection, Reaper, World, after_reap, after_step, conn_at, is_open_conn, is_over, with_conn, zxid_at}
use Rattle.zp_script.specs.declared.flight.Asking.{Asking}
use Rattle.zp_script.specs.declared.flight.Flight.TheVariants.{Carried, Denied, Out}
use Rattle.zp_script.specs.declared.flight.Flight.{Flight}
use Rattle.zp_world_laws.proofs.Arriving.{Queues, Shuts, Arrived, arrived, is_busy}
use Rattle.zp_world_laws.proofs.Accounts.{exec-accounted}
use Rattle.zp_world_laws.proofs.Arrivals.{acts-accounted, core-of, nat-either}
use Rattle.zp_world_laws.proofs.Growing.{precedes-trans}
use Rattle.zp_world_laws.proofs.Handing.{core-same}
use Rattle.zp_world_laws.proofs.Lives.{answer-acts, entry-acts}
use Rattle.zp_world_laws.proofs.Numbers.{conn-here, conn-there, either-number}
use Rattle.zp_world_laws.proofs.Running.{Settling, SettlesOn, answers, carries, enters, happens-accounted, first-accounted, settling-is, within-before, runs-grown}
use Rattle.zp_world_laws.specs.Accounting.{IsAccounted, IsWithinCounts, OffersSession}
use Rattle.zp_world_laws.specs.Connecting.{IsInStage}
use Rattle.zp_world_laws.specs.Connections.{IsServingConn}
use Rattle.zp_settle_laws.proofs.Bytes.{ended-out}
use Rattle.zp_settle_laws.proofs.Few.{few-steps}
use Rattle.zp_settle_laws.proofs.Onward.{Grows, Later, carried-on, carry-later, effect-grows}
use Rattle.zp_settle_laws.proofs.Room.{AsksFew, IsOfScript, carries-out, serving-allowed}
use Rattle.zx_base.proofs.Booleans.{true-not_false as true-false}

-- ---- an open connection

pub record IsRoomyAt (s : Store) (x : Conn) (core : Core) : Type 0 where
  pub few : AsksFew core.stage
  -- what was denied was asked
  pub busy : x.flight ≡ Some Denied → is_busy core.stage ≡ true
  pub full : is_served core.stage ≡ true → x.flight ≡ Some Denied → last_revision ≤ℤ revision s

pub record IsRoomy (w : World) : Type 0 where
  pub store : IsOfScript w.store
  pub conns : (c : ℕ) (x : Conn) (core : Core) → conn_at c w ≡ Some x → x.actor ≡ Connection core → IsRoomyAt w.store x core

-- ---- while the store goes on

full-later : (s u : Store) → Later s u → last_revision ≤ℤ revision s → last_revision ≤ℤ revision u
full-later s u l h = let le = (l.before).longer in omega (arith, ints, le, h)

roomy-later : (s u : Store) (x : Conn) (core : Core) → Later s u → IsRoomyAt s x core → IsRoomyAt u x core
roomy-later s u x core l k = record { few = k.few; busy = k.busy; full = λ served denied. full-later s u l (k.full served denied) }

script-later : (s u : Store) → Later s u → IsOfScript s → IsOfScript u
script-later s u l o = record {
  floor = l.floor ∙ o.floor;
  begun = precedes-trans new_store s u o.begun l.before;
}

alike-roomy : (w w' : World) → Later w.store w'.store → w'.conns ≡ w.conns → IsRoomy w → IsRoomy w'
alike-roomy w w' l conns r = record {
  store = script-later w.store w'.store l r.store;
  conns = λ c x core there actor. roomy-later w.store w'.store x core l (r.conns c x core (sym (ap (λ m. get m c) conns) ∙ there) actor);
}

roomy-to : (v w : World) → w ≡ v → IsRoomy v → IsRoomy w
roomy-to v w e r = subst IsRoomy (sym e) r

-- ---- one connection changes

abbrev IsRoomyAs : Store → Conn → Type 0
IsRoomyAs s v = (core : Core) → v.actor ≡ Connection core → IsRoomyAt s v core

with-roomy : (w : World) (c : ℕ) (v : Conn) → IsRoomyAs w.store v → IsRoomy w → IsRoomy (with_conn w c v)
with-roomy w c v k r = record {
  store = r.store;
  conns = λ d y core there actor. elim (either-number d c) [
    | inl same ↦
        let is : v ≡ y = some_is (sym (conn-here w c v) ∙ ap (λ n. conn_at n (with_conn w c v)) (sym same) ∙ there) in
        subst (λ u. IsRoomyAt w.store u core) is (k core (ap (λ (u : Conn). u.actor) is ∙ actor))
    | inr apart ↦ r.conns d y core (sym (conn-there w c d v apart) ∙ there) actor
  ];
}

leaves-roomy : (w : World) (c : ℕ) (x : Conn) (actor : Actor) (o : StepOutcome) → IsRoomyAs w.store (record x { actor = actor; flight = o.flight }) → IsRoomy w → IsRoomy (leaves c w x actor o)
leaves-roomy w c x actor o k r = let v : Conn = record x { actor = actor; flight = o.flight } in let t = with-roomy w c v k r in record { store = t.store; conns = t.conns }

-- one that is no connection
reaper-core : (q : Reap) (core : Core) → Reaper q ≡ Connection core → ⊥
reaper-core q core e = cc

closed-core : (core : Core) → Closed ≡ Connection core → ⊥
closed-core core e = cc

closed-roomy : (w : World) (c : ℕ) (x : Conn) (o : StepOutcome) → IsRoomy w → IsRoomy (leaves c w x Closed o)
closed-roomy w c x o r = leaves-roomy w c x Closed o (λ core e. absurd (closed-core core e)) r

-- ---- a step

-- what is denied after a step was denied before it, and nothing was asked
acts-denied : (c : ℕ) (kind : Option UpdateKind) (after : List TranscriptLine) (out : List Action) (o : StepOutcome) → ends_well out ≡ true → closes out ≡ false → (fold (acts c kind after) o out).flight ≡ Some Denied → o.flight ≡ Some Denied
acts-denied c kind after [] o h k e = e
acts-denied c kind after (action.Send bytes ∷ out) o h k e = acts-denied c kind after out (acts c kind after o (action.Send bytes)) h k e
acts-denied c kind after (action.Ask a ∷ out) o h k e = absurd (out-denied (record { ask = a; kind = kind }) (ap (λ l. (fold (acts c kind after) (acts c kind after o (action.Ask a)) l).flight) (sym (ended-out out h)) ∙ e))
  where
    out-denied : (x : Asking) → Some (Out x) ≡ Some Denied → ⊥
    out-denied x f = cc
acts-denied c kind after (action.Close why ∷ out) o h k e = absurd (true-false k)

busy-waits : (core : Core) (e : Entry) (st : Stage) → is_busy st ≡ true → then_reply (entered core e) st ≡ entered core e
busy-waits core e (Connecting x) h = refl
busy-waits core e (KeepingAlive f) h = refl
busy-waits core e (Checking f) h = refl
busy-waits core e (Reading xid r v ws) h = refl
busy-waits core e (Committing xid r v p m) h = refl
busy-waits core e (Unconnected fresh) h = absurd (true-false (sym h))
busy-waits core e Ready h = absurd (true-false (sym h))
busy-waits core e (Waiting p) h = absurd (true-false (sym h))
busy-waits core e Shut h = absurd (true-false (sym h))

busy-unready : (st : Stage) → is_busy st ≡ true → st ≡ Ready → ⊥
busy-unready st h e = true-false (sym h ∙ ap is_busy e)

-- what is busy stays in its stage, but at an answer
busy-stays : (core next : Core) (i : Input) (now : ℕ) (out : List Action) → is_busy core.stage ≡ true → is_shut core.stage ≡ false → is_shut next.stage ≡ false → ((a : Answer) → i ≡ input.Answer a → ⊥) → CoreSteps core i now next out → next.stage ≡ core.stage
busy-stays core next i now out busy opens open' idle h = go i refl
  where
    ends : (why : Cause) → end_by i ≡ Some why → next.stage ≡ core.stage
    ends why e = absurd (true-false (sym (ap is_shut (ends-named core next i why now out opens e h).0) ∙ open'))

    frame : (f : List ℕ) → Arrived core next f out → next.stage ≡ core.stage
    frame f (Queues is silent header) = ap (λ (d : Core). d.stage) is
    frame f (Shuts shut why closed) = absurd (true-false (sym shut ∙ open'))

    entry : (x : _) → CoreSteps core (input.Entry x) now next out → next.stage ≡ core.stage
    entry x g =
        let s = steps-open core next (input.Entry x) now out opens g in
        let same : s.mid.stage ≡ core.stage = ap (λ (d : Core). d.stage) (s.handled).0 ∙ ap (λ (q : Core × List Action). q.0.stage) (busy-waits core (arc_value x) core.stage busy) in
        let still = goes-still now s.mid next s.later (λ r. busy-unready core.stage busy (sym same ∙ r)) s.goes in
        ap (λ (d : Core). d.stage) still.0 ∙ same

    go : (x : Input) → i ≡ x → next.stage ≡ core.stage
    go (input.Frame f) e = frame f (arrived core next f now out busy (subst (λ y. CoreSteps core y now next out) e h))
    go (input.Answer a) e = absurd (idle a e)
    go (input.Entry x) e = entry x (subst (λ y. CoreSteps core y now next out) e h)
    go input.Failed e = ends cause.LinkFault (ap end_by e)
    go (input.BadLength place n) e = ends (cause.BadLength place n) (ap end_by e)
    go (input.Lagged cursor floor) e = ends (cause.Lagged cursor floor) (ap end_by e)
    go input.FeedClosed e = ends cause.FeedClosed (ap end_by e)
    go (input.ClientEnd place) e = ends (cause.ClientEnd place) (ap end_by e)

module _ (w w' : World) (c : ℕ) (after : List TranscriptLine) (i : Input) (hd : Handed c after w i w') (r : IsRoomy w) (idle : (a : Answer) → i ≡ input.Answer a → hd.conn.flight ≡ None) where
  was : IsRoomyAt w.store hd.conn hd.core
  was = r.conns c hd.conn hd.core hd.found hd.serving

  opened-before : is_shut hd.next.stage ≡ false → is_shut hd.core.stage ≡ false
  opened-before going = go (is_shut hd.core.stage) refl
    where
      go : (b : Bool) → is_shut hd.core.stage ≡ b → b ≡ false
      go false e = refl
      go true e = absurd (true-false (sym e ∙ ap (λ (d : Core). is_shut d.stage) (sym (shut-for-good hd.core hd.next i w.clock hd.out e hd.stepped).0) ∙ going))

  denied-before : is_shut hd.next.stage ≡ false → (acts_all c (kind_asked c (Connection hd.next)) after hd.conn.flight hd.out).flight ≡ Some Denied → (hd.conn.flight ≡ Some Denied) × (hd.next.stage ≡ hd.core.stage)
  denied-before going denied =
      let opens = opened-before going in
      let e = steps_end_well hd.core hd.next i w.clock hd.out opens hd.stepped in
      let before = acts-denied c (kind_asked c (Connection hd.next)) after hd.out (quiet hd.conn.flight) e.well (e.closes ∙ going) denied in
      (before, busy-stays hd.core hd.next i w.clock hd.out (was.busy before) opens going (λ a f. none_some (sym (idle a f) ∙ before)) hd.stepped)

  next-roomy : is_shut hd.next.stage ≡ false → IsRoomyAt w.store (record (hd.conn) { actor = Connection hd.next; flight = (acts_all c (kind_asked c (Connection hd.next)) after hd.conn.flight hd.out).flight }) hd.next
  next-roomy going = record {
    few = few-steps hd.core hd.next i w.clock hd.out was.few hd.stepped;
    busy = λ denied. (let b = denied-before going denied in ap is_busy b.1 ∙ was.busy b.0);
    full = λ served denied. (let b = denied-before going denied in was.full (ap is_served (sym b.1) ∙ served) b.0);
  }

  left-roomy : (b : Bool) → is_shut hd.next.stage ≡ b
      → IsRoomyAs w.store (record (hd.conn) { actor = if b then Closed else Connection hd.next; flight = (acts_all c (kind_asked c (Connection hd.next)) after hd.conn.flight hd.out).flight })
  left-roomy true e core a = absurd (closed-core core a)
  left-roomy false e core a = subst (IsRoomyAt w.store (record (hd.conn) { actor = Connection hd.next; flight = (acts_all c (kind_asked c (Connection hd.next)) after hd.conn.flight hd.out).flight })) (core-same hd.next core a) (next-roomy e)

  pub handed-roomy : IsRoomy w'
  handed-roomy = roomy-to (leaves c w hd.conn (after_step hd.next) (acts_all c (kind_asked c (Connection hd.next)) after hd.conn.flight hd.out)) w' hd.result
      (leaves-roomy w c hd.conn (after_step hd.next) (acts_all c (kind_asked c (Connection hd.next)) after hd.conn.flight hd.out) (left-roomy (is_shut hd.next.stage) refl) r)

-- ---- frames

alike-at : (s : Store) (x v : Conn) → v.actor ≡ x.actor → v.flight ≡ x.flight → IsRoomyAs s x → IsRoomyAs s v
alike-at s x v actor flight k core a =
    let t = k core (sym actor ∙ a) in
    record { few = t.few; busy = λ denied. t.busy (sym flight ∙ denied); full = λ served denied. t.full served (sym flight ∙ denied) }

set-roomy : (w : World) (c : ℕ) (x v : Conn) → conn_at c w ≡ Some x → v.actor ≡ x.actor → v.flight ≡ x.flight → IsRoomy w → IsRoomy (with_conn w c v)
set-roomy w c x v there actor flight r = with-roomy w c v (alike-at w.store x v actor flight (λ core a. r.conns c x core there a)) r

frame-no : (f : List ℕ) (a : Answer) → input.Frame f ≡ input.Answer a → ⊥
frame-no f a e = cc

shown-roomy : (w : World) (c : ℕ) (x : Conn) (f : List ℕ) → conn_at c w ≡ Some x → IsRoomy w → IsRoomy (shown_frame c w x f)
shown-roomy w c x f there r = let t = set-roomy w c x (record x { frames = counted_up (x.frames + 1) }) there refl refl r in record { store = t.store; conns = t.conns }

frames-roomy : (c : ℕ) (w w' : World) (fs : List (List ℕ)) → FramesArrive c w fs w' → IsRoomy w → IsRoomy w'
frames-roomy c w w' [] h r = roomy-to w w' h r
frames-roomy c w w' (f ∷ fs) (x, mid, found, hd, rest) r = go (is_open_conn (conn_at c mid)) (λ h. frames-roomy c mid w' fs h one) rest
  where
    one : IsRoomy mid
    one = handed-roomy (shown_frame c w x f) mid c (frame_lines c (counted_up (x.frames + 1)) (zxid_at w.store) fs) (input.Frame f) hd (shown-roomy w c x f found r) (λ a e. absurd (frame-no f a e))

    go : (b : Bool) → (FramesArrive c mid fs w' → IsRoomy w') → MatchBool b (FramesArrive c mid fs w') (w' ≡ mid) → IsRoomy w'
    go true later h = later h
    go false later h = roomy-to mid w' h one

badly-roomy : (c : ℕ) (w w' : World) (place : ℕ) (bad : Option ℤ) → EndsBadly c w place bad w' → IsRoomy w → IsRoomy w'
badly-roomy c w w' place None h r = roomy-to w w' h r
badly-roomy c w w' place (Some n) h r = go (is_open_conn (conn_at c w)) h
  where
    length-no : (a : Answer) → input.BadLength place n ≡ input.Answer a → ⊥
    length-no a e = cc

    go : (b : Bool) → MatchBool b (Handed c [] w (input.BadLength place n) w') (w' ≡ w) → IsRoomy w'
    go true hd = handed-roomy w w' c [] (input.BadLength place n) hd r (λ a e. absurd (length-no a e))
    go false e = roomy-to w w' e r

arrives-roomy : (c : ℕ) (w w' : World) (bytes : List ℕ) → Arrives c w bytes w' → IsRoomy w → IsRoomy w'
arrives-roomy c w w' bytes a r =
    let v : Conn = record (a.conn) { stream = a.stream } in
    badly-roomy c a.mid w' (a.stream).place a.bad a.ends (frames-roomy c (with_conn w c v) a.mid a.frames a.arrive (set-roomy w c a.conn v a.found refl refl r))

-- ---- what is carried out

stray-roomy : (w w' : World) (k : ℕ) → ExecutesStray k w w' → IsRoomy w → IsRoomy w'
stray-roomy w w' k ex r =
    let g = carried-on w ex.mid ex.asking ex.flight ex.carries in
    let v : World = record (ex.mid) { strays = slice_set ex.mid.strays (k - 1) None } in
    roomy-to v w' ex.result (alike-roomy w v g.store g.conns r)

room-or-not : (s : Store) → (revision s <ℤ last_revision) ⊎ (last_revision ≤ℤ revision s)
room-or-not s = go (nat-either (length s.revisions) max_revisions)
  where
    go : (length s.revisions < max_revisions) ⊎ (max_revisions ≤ length s.revisions) → (revision s <ℤ last_revision) ⊎ (last_revision ≤ℤ revision s)
    go (inl less) = inl (omega (arith, ints, less))
    go (inr most) = inr (omega (arith, ints, most))

asked-busy : (core : Core) (st : Stage) (q : Ask) → asked_of core.who st ≡ Some q → is_busy st ≡ true
asked-busy core (Connecting x) q e = refl
asked-busy core (KeepingAlive f) q e = refl
asked-busy core (Checking f) q e = refl
asked-busy core (Reading xid r v ws) q e = refl
asked-busy core (Committing xid r v p m) q e = refl
asked-busy core (Unconnected fresh) q e = absurd (none_some e)
asked-busy core Ready q e = absurd (none_some e)
asked-busy core (Waiting p) q e = absurd (none_some e)
asked-busy core Shut q e = absurd (none_some e)

module _ (w w' : World) (c : ℕ) (ex : Executes c w w') (k : IsAccounted w) (r : IsRoomy w) (core : Core) (actor : ex.conn.actor ≡ Connection core) where
  at : IsRoomyAt w.store ex.conn core
  at = r.conns c ex.conn core ex.found actor

  out-serving : is_served core.stage ≡ true → IsServingConn w.store w.lines c core (Some (Out ex.asking))
  out-serving served = subst (IsServingConn w.store w.lines c core) ex.out ((k.whole).serving c ex.conn core ex.found actor served)

  served-busy : is_served core.stage ≡ true → is_busy core.stage ≡ true
  served-busy served = let s = out-serving served in asked-busy core core.stage ex.asking.ask (s.flies).asked

  asking-busy : is_busy core.stage ≡ true
  asking-busy = go core.stage refl (core-of w c ex.conn core k.known ex.found actor).1
    where
      go : (st : Stage) → core.stage ≡ st → IsInStage w.store w.lines c core ex.conn.flight st → is_busy core.stage ≡ true
      go (Unconnected fresh) e h = absurd (none_some (sym h.1 ∙ ex.out))
      go (Connecting x) e h = ap is_busy e
      go Ready e h = served-busy (ap is_served e)
      go (KeepingAlive f) e h = ap is_busy e
      go (Checking f) e h = ap is_busy e
      go (Reading xid q v ws) e h = ap is_busy e
      go (Committing xid q v p m) e h = ap is_busy e
      go (Waiting p) e h = served-busy (ap is_served e)
      go Shut e h = absurd (true-false (sym (ap is_shut e) ∙ (k.whole).unshut c ex.conn core ex.found actor))

  carried-not : (a : Answer) → Some (Carried a) ≡ Some Denied → ⊥
  carried-not a e = cc

  -- a store with room denies nothing
  denied-full : is_served core.stage ≡ true → ex.flight ≡ Denied → last_revision ≤ℤ revision w.store
  denied-full served denied = by-room (room-or-not w.store)
    where
      by-carry : (o : Option (Store × Answer)) → carry w.store ex.asking.ask ≡ o → CarriedBy w ex.asking.kind ex.flight ex.mid o → revision w.store <ℤ last_revision → ⊥
      by-carry None e p room =
          let s = out-serving served in
          carries-out w.store ex.asking.ask (serving-allowed w.store w.lines c core (Some (Out ex.asking)) ((k.whole.holds).serves) r.store room s ex.asking.ask at.few (s.flies).asked) e
      by-carry (Some x) e p room = carried-not x.1 (ap Some (sym p.0 ∙ denied))

      by-room : (revision w.store <ℤ last_revision) ⊎ (last_revision ≤ℤ revision w.store) → last_revision ≤ℤ revision w.store
      by-room (inl room) = absurd (by-carry (carry w.store ex.asking.ask) refl ex.carries room)
      by-room (inr full) = full

  pub exec-at : (s : Store) → Later w.store s → IsRoomyAt s (record (ex.conn) { flight = Some ex.flight }) core
  exec-at s later = record { few = at.few; busy = λ denied. asking-busy; full = λ served denied. full-later w.store s later (denied-full served (some_is denied)) }

exec-roomy : (w w' : World) (c : ℕ) → Executes c w w' → IsAccounted w → IsRoomy w → IsRoomy w'
exec-roomy w w' c ex k r =
    let g = carried-on w ex.mid ex.asking ex.flight ex.carries in
    let v : Conn = record (ex.conn) { flight = Some ex.flight } in
    roomy-to (with_conn ex.mid c v) w' ex.result (with-roomy ex.mid c v (λ core actor. exec-at w w' c ex k r core actor ex.mid.store g.store) (alike-roomy w ex.mid g.store g.conns r))

-- ---- what is delivered

landed-roomy : (w : World) (c : ℕ) → IsRoomy w → IsRoomy (landed c w)
landed-roomy w c r = go (conn_at c w) refl
  where
    go : (o : Option Conn) → conn_at c w ≡ o → IsRoomy (landed_conn c w o)
    go None e = r
    go (Some x) e = with-roomy w c (record x { flight = None }) (λ core actor. (let t = r.conns c x core e actor in record { few = t.few; busy = λ denied. absurd (none_some denied); full = λ served denied. absurd (none_some denied) })) r

reaps-roomy : (w w' : World) (c : ℕ) (x : Conn) (q : Reap) (a : Option Answer) → Reaps c w a w' x q → IsRoomy w → IsRoomy w'
reaps-roomy w w' c x q a (inl e) r = roomy-to (leaves c w x Closed (ended_by c (cause.Damaged e.key e.value) x.flight)) w' e.result (closed-roomy w c x (ended_by c (cause.Damaged e.key e.value) x.flight) r)
reaps-roomy w w' c x q a (inr s) r = roomy-to (leaves c w x (after_reap s.next) (reap_acts c (kind_asked c (Reaper s.next)) x.flight s.step)) w' s.result
    (leaves-roomy w c x (after_reap s.next) (reap_acts c (kind_asked c (Reaper s.next)) x.flight s.step) (by (is_over s.next.phase)) r)
  where
    by : (b : Bool) (core : Core) → (if b then Closed else Reaper s.next) ≡ Connection core → IsRoomyAt w.store (record x { actor = if b then Closed else Reaper s.next; flight = (reap_acts c (kind_asked c (Reaper s.next)) x.flight s.step).flight }) core
    by true core e = absurd (closed-core core e)
    by false core e = absurd (reaper-core s.next core e)

answer-roomy : (w w' : World) (c : ℕ) (x : Conn) (a : Answer) (actor : Actor) → conn_at c w ≡ Some x → x.flight ≡ None → AnswerComesTo c w x a w' actor → IsRoomy w → IsRoomy w'
answer-roomy w w' c x a (Connection core) there none hd r = handed-roomy w w' c [] (input.Answer a) hd r (λ b e. ap (λ (u : Conn). u.flight) (some_is (sym hd.found ∙ there)) ∙ none)
answer-roomy w w' c x a (Reaper q) there none h r = reaps-roomy w w' c x q (Some a) h r
answer-roomy w w' c x a Closed there none h r = absurd h

failed-no : (a : Answer) → input.Failed ≡ input.Answer a → ⊥
failed-no a e = cc

failure-roomy : (w w' : World) (c : ℕ) (x : Conn) (actor : Actor) → FailureComesTo c w x w' actor → IsRoomy w → IsRoomy w'
failure-roomy w w' c x (Connection core) h r = handed-roomy w w' c [] input.Failed h r (λ a e. absurd (failed-no a e))
failure-roomy w w' c x (Reaper q) h r = roomy-to (leaves c w x Closed (ended_by c cause.LinkFault x.flight)) w' h (closed-roomy w c x (ended_by c cause.LinkFault x.flight) r)
failure-roomy w w' c x Closed h r = absurd h

landed-none : (w : World) (c : ℕ) (x : Conn) → conn_at c (landed c w) ≡ Some x → x.flight ≡ None
landed-none w c x there = go (conn_at c w) refl there
  where
    go : (o : Option Conn) → conn_at c w ≡ o → conn_at c (landed_conn c w o) ≡ Some x → x.flight ≡ None
    go None e h = absurd (none_some (sym e ∙ h))
    go (Some y) e h = ap (λ (u : Conn). u.flight) (sym (some_is (sym (conn-here w c (record y { flight = None })) ∙ h)))

delivers-roomy : (w w' : World) (c : ℕ) (f : Option Flight) → Delivers c w w' f → IsRoomy w → IsRoomy w'
delivers-roomy w w' c None h r = absurd h
delivers-roomy w w' c (Some (Out a)) h r = absurd h
delivers-roomy w w' c (Some (Carried a)) (x, there, h) r = answer-roomy (landed c w) w' c x a x.actor there (landed-none w c x there) h (landed-roomy w c r)
delivers-roomy w w' c (Some Denied) (x, there, h) r = failure-roomy (landed c w) w' c x x.actor h (landed-roomy w c r)

-- ---- entries, and the client's end

enters-roomy : (w w' : World) (c : ℕ) (o : Option Entry) → EntersBy c w w' o → IsRoomy w → IsRoomy w'
enters-roomy w w' c None h r = absurd h
enters-roomy w w' c (Some e) (i, is, hd) r = handed-roomy w w' c [] i hd r (λ a f. absurd (subst (IsEntry e) f is))

lags-roomy : (w w' : World) (c : ℕ) (o : Option ℤ) → LagsBy c w w' o → IsRoomy w → IsRoomy w'
lags-roomy w w' c None h r = absurd h
lags-roomy w w' c (Some z) hd r = handed-roomy w w' c [] _ hd r (λ a e. absurd (lag-no _ _ a e))
  where
    lag-no : (p q : ℤ) (a : Answer) → input.Lagged p q ≡ input.Answer a → ⊥
    lag-no p q a e = cc

ends-roomy : (w w' : World) (c : ℕ) (o : Option Conn) → EndsBy c w w' o → IsRoomy w → IsRoomy w'
ends-roomy w w' c None h r = absurd h
ends-roomy w w' c (Some x) hd r = handed-roomy w w' c [] _ hd r (λ a e. absurd (end-no _ a e))
  where
    end-no : (p : ℕ) (a : Answer) → input.ClientEnd p ≡ input.Answer a → ⊥
    end-no p a e = cc

-- ---- a proxy restarts

stopped-roomy : (p : ℕ) (w : World) (es : List (ℕ × Conn)) → IsRoomy w → IsRoomy (fold (stopped p) w es)
stopped-roomy p w [] r = r
stopped-roomy p w (e ∷ es) r = go (is_open_at p e.1) (λ v k. stopped-roomy p v es k)
  where
    go : (b : Bool) → ((v : World) → IsRoomy v → IsRoomy (fold (stopped p) v es)) → IsRoomy (fold (stopped p) (if b then leaves e.0 w e.1 Closed (ended_by e.0 cause.Restart e.1.flight) else w) es)
    go false later = later w r
    go true later = later (leaves e.0 w e.1 Closed (ended_by e.0 cause.Restart e.1.flight)) (closed-roomy w e.0 e.1 (ended_by e.0 cause.Restart e.1.flight) r)

-- ---- the store by itself

put-roomy : (w w' : World) → w'.conns ≡ w.conns → Grows w w' → IsRoomy w → IsRoomy w'
put-roomy w w' conns g r = alike-roomy w w' g.store conns r

lapse-conns : (w w' : World) (id : ℤ) (o : Option Store) → LapsesTo id w w' o → w'.conns ≡ w.conns
lapse-conns w w' id None h = absurd h
lapse-conns w w' id (Some s) h = ap (λ (v : World). v.conns) h

put-conns : (w w' : World) (o : Option Store) → PutTo w w' o → w'.conns ≡ w.conns
put-conns w w' None h = absurd h
put-conns w w' (Some s) h = ap (λ (v : World). v.conns) h

-- ---- settle

settling-roomy : (c : ℕ) (w w' : World) (h : Happening) → Settling c w h → Does w h w' → IsAccounted w → IsRoomy w → IsRoomy w'
settling-roomy c w w' _ carries h k r = exec-roomy w w' c h k r
settling-roomy c w w' _ answers h k r = delivers-roomy w w' c (flight_at c w) h r
settling-roomy c w w' _ (enters idle) h k r = enters-roomy w w' c (next_entry c w) h r

settling-accounted : (c : ℕ) (w w' : World) (h : Happening) → Settling c w h → Does w h w' → IsAccounted w → IsAccounted w'
settling-accounted c w w' _ carries h k = exec-accounted w w' c h k
settling-accounted c w w' _ answers h k = acts-accounted w w' c k (answer-acts w w' c h k)
settling-accounted c w w' _ (enters idle) h k = acts-accounted w w' c k (entry-acts w w' c (next_entry c w) refl h idle k)

settles-roomy : (n c : ℕ) (w w' : World) → Settles n c w w' → IsAccounted w → IsRoomy w → IsRoomy w'
settles-roomy zero c w w' h k r = roomy-to w w' h r
settles-roomy (suc n) c w w' h k r = go (settling c w) refl (λ mid. settles-roomy n c mid w') h
  where
    go : (o : Option Happening) → settling c w ≡ o → ((mid : World) → Settles n c mid w' → IsAccounted mid → IsRoomy mid → IsRoomy w') → SettlesOn n c w w' o → IsRoomy w'
    go None e later g = roomy-to w w' g r
    go (Some x) e later (mid, does, rest) =
        let s = settling-is c w x e in
        later mid rest (settling-accounted c w mid x s does k) (settling-roomy c w mid x s does k r)

-- ---- each line

new-at : (s : Store) (p : ℕ) (fresh : Fresh) (core : Core) → Connection (new_core fresh) ≡ Connection core → IsRoomyAt s (new_conn p (Connection (new_core fresh))) core
new-at s p fresh core e = record {
  few = subst (λ (d : Core). AsksFew d.stage) (core-same (new_core fresh) core e) tt;
  busy = λ denied. absurd (none_some denied);
  full = λ served denied. absurd (none_some denied);
}

effect-roomy : (w w' : World) (h : Happening) → Effect w h w' → IsAccounted w → IsRoomy w → IsRoomy w'
effect-roomy w w' (line.Open c p id passwd layout) h k r =
    let fresh : Fresh = record { id = id; passwd = passwd; layout = layout } in
    let t = with-roomy w c (new_conn p (Connection (new_core fresh))) (λ core e. new-at w.store p fresh core e) r in
    roomy-to (opened w c p (record { id = id; passwd = passwd; layout = layout })) w' h (record { store = t.store; conns = t.conns })
effect-roomy w w' (line.Frame c bytes) h k r = arrives-roomy c w w' (with_length bytes) h r
effect-roomy w w' (line.Arrive c bytes) h k r = arrives-roomy c w w' bytes h r
effect-roomy w w' (line.Exec c) h k r = exec-roomy w w' c h k r
effect-roomy w w' (line.Answer c) h k r = delivers-roomy w w' c (flight_at c w) h r
effect-roomy w w' (line.Cut c) (x, there, h) k r = failure-roomy w w' c x x.actor h r
effect-roomy w w' (line.Refuse c) (x, there, h) k r = failure-roomy (landed c w) w' c x x.actor h (landed-roomy w c r)
effect-roomy w w' (line.Stray n) h k r = stray-roomy w w' n h r
effect-roomy w w' (line.Entry c) h k r = enters-roomy w w' c (next_entry c w) h r
effect-roomy w w' (line.Lag c) h k r = lags-roomy w w' c (cursor_at c w) h r
effect-roomy w w' (line.End c) h k r = ends-roomy w w' c (conn_at c w) h r
effect-roomy w w' (line.Restart p) h k r = roomy-to (restarted p w) w' h (stopped-roomy p w (entries w.conns) r)
effect-roomy w w' (line.Lapse id) h k r = put-roomy w w' (lapse-conns w w' id (lapse w.store id) h) (effect-grows w w' (line.Lapse id) h) r
effect-roomy w w' (line.Foreign key v) h k r = put-roomy w w' (put-conns w w' (foreign w.store key v) h) (effect-grows w w' (line.Foreign key v) h) r
effect-roomy w w' (line.Reap c p id) h k r = reaps-roomy w w' c (new_reaper p id) (new_reap id) None h r
effect-roomy w w' (line.Tick n) h k r = put-roomy w w' (ap (λ (v : World). v.conns) h) (effect-grows w w' (line.Tick n) h) r
effect-roomy w w' (line.Settle c) h k r = settles-roomy (max_settling c w) c w w' h k r

pub happens-roomy : (w w' : World) (h : Happening) → Happens w h w' → IsAccounted w → IsRoomy w → IsRoomy w'
happens-roomy w w' h p k r = effect-roomy w w' h p.effect k r

-- ---- a whole script

first-store : (s : Store) (a : Answer) → carry new_store (begin_ask 0) ≡ Some (s, a) → IsOfScript s
first-store s a e = let l = carry-later new_store s (begin_ask 0) a e in record { floor = l.floor; begun = l.before }

pub first-roomy : (w : World) → IsFirst w → IsRoomy w
first-roomy w (s, a, e, is) = roomy-to (world_over s) w is (record { store = first-store s a e; conns = λ c x core there actor. absurd (none_some (sym (get-empty nat_cmp c) ∙ there)) })

-- all is accounted for, and so it is
pub record IsKept (w : World) : Type 0 where
  pub accounted : IsAccounted w
  pub roomy : IsRoomy w

pub settling-kept : (c : ℕ) (w w' : World) (h : Happening) → Settling c w h → Does w h w' → IsKept w → IsKept w'
settling-kept c w w' h s d k = record { accounted = settling-accounted c w w' h s d k.accounted; roomy = settling-roomy c w w' h s d k.accounted k.roomy }

pub happens-kept : (w w' : World) (h : Happening) → OffersSession h → IsWithinCounts w' → Happens w h w' → IsKept w → IsKept w'
happens-kept w w' h offer within p k = record { accounted = happens-accounted w w' h offer within p k.accounted; roomy = happens-roomy w w' h p k.accounted k.roomy }

runs-kept : (w w' : World) (hs : List Happening) (ticks : List Tick) → All OffersSession hs → IsWithinCounts w' → RunsFrom w hs ticks w' → IsKept w → IsKept w'
runs-kept w w' [] ticks offers within (none, same) k = subst IsKept (sym same) k
runs-kept w w' (h ∷ hs) ticks offers within (mid, more, one, e, rest) k =
    runs-kept mid w' hs more (All-tail OffersSession h hs offers) within rest
    (happens-kept w mid h (All-head OffersSession h hs offers) (within-before mid w' (runs-grown mid w' hs more rest) within) one k)

pub every-run-kept : (hs : List Happening) (ticks : List Tick) (w : World) → All OffersSession hs → IsWithinCounts w → Runs hs ticks w → IsKept w
every-run-kept hs ticks w offers within (first, begins, runs) = runs-kept first w hs ticks offers within runs (record { accounted = first-accounted first begins; roomy = first-roomy first begins })
