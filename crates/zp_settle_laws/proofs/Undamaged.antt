-- No answer that waits to be delivered shows a value that is no record: the store's keys stood for a state when it was given.
use Rattle.std.proofs.Common.{◌≡◌, ℕ, ◌≤◌, List, [], ◌∷◌, length, refl, sym, ap, ◌∙◌, subst, arith, Bool, true, false, ℤ, pos, inl, inr, zero, suc}
use Rattle.std.specs.Prelude.{All, Option, Some, None, nat_abs}
use Rattle.std.proofs.lemmas.Bool.Decides.{Decides-int_eq}
use Rattle.std.proofs.lemmas.Int.{ints}
use Rattle.std.proofs.lemmas.List.Elements.{All-contains, All-head, All-tail}
use Rattle.ev_types.specs.Denials.{carry}
use Rattle.ev_types.specs.Store.{Store, present, revision, store_at, succeeds}
use Rattle.ev_types.specs.declared.answer.ActAns.{ActAns}
use Rattle.ev_types.specs.declared.answer.Answer.{Answer}
use Rattle.ev_types.specs.declared.answer.Answer.TheVariants as answer
use Rattle.ev_types.specs.declared.answer.Kv.{Kv}
use Rattle.ev_types.specs.declared.ask.TxnReq.{TxnReq}
use Rattle.zk_model.specs.declared.reply.Body.TheVariants as body
use Rattle.zk_model.specs.declared.reply.Reply.TheVariants as reply
use Rattle.zk_model.specs.declared.request.Request.{Request}
use Rattle.zk_service.specs.States.{Session, State, session_at}
use Rattle.zk_transcript.specs.History.{state_at}
use Rattle.zk_transcript.specs.Legal.{Tick}
use Rattle.zk_service.specs.declared.cause.Cause.TheVariants as cause
use Rattle.zk_service.specs.declared.cause.Ended.TheVariants as ended
use Rattle.zk_transcript.specs.declared.transcript.TranscriptLine.TheVariants.{Close}
use Rattle.zk_transcript.specs.declared.transcript.TranscriptLine.{TranscriptLine}
use Rattle.zn_layout.specs.Keys.{HeadKey, SessionKey, key_bytes}
use Rattle.zn_layout.specs.StandsFor.{HeadMeans, NodesMean, StandsFor, at, stored_of}
use Rattle.zk_model.specs.Znodes.{owned}
use Rattle.zn_view.proofs.AsSeen.{agrees-seen}
use Rattle.zn_view.proofs.Showing.{first-shown, later-shown, nothing-agrees}
use Rattle.zn_view.specs.Adding.{AreRecords, at_revision}
use Rattle.zn_view.specs.Asks.{plan_txn, ranges_of, reading, transaction}
use Rattle.zn_view.specs.Seen.{View, empty_view}
use Rattle.zn_view.specs.Views.{Agrees}
use Rattle.zn_view.specs.declared.plan.Plan.{Plan}
use Rattle.zn_view.specs.declared.want.Want.{Want}
use Rattle.zs_reap.specs.Steps.{AreFewOwned, IsFaultOfReaper as IsReapFaultIn, IsReadFault, IsReapFault, reaper_wants as first_looked}
use Rattle.zs_reap.specs.declared.reap.Phase.TheVariants as reaping
use Rattle.zs_reap.specs.declared.reap.Phase.{Phase as ReapPhase}
use Rattle.zs_reap.specs.declared.reap.Reap.{Reap}
use Rattle.zs_session.specs.Answering.{viewed}
use Rattle.zs_session.specs.Connecting.{IsConnectFault, IsFaultOfConnect, asked_in_phase, timeout_in}
use Rattle.zs_session.specs.Sessions.{attach_guards, attach_txn, attach_wants, first_wants, new_session_guards, new_session_txn, session_wants}
use Rattle.zs_session.specs.declared.connect.Connect.{Connect}
use Rattle.zs_session.specs.declared.connect.Phase.TheVariants.{Attaching, Creating, Granting, Keeping, Looking, LookingAgain, Over, Unasked}
use Rattle.zs_session.specs.declared.connect.Phase.{Phase}
use Rattle.zs_session.specs.declared.fault.StepFault.TheVariants as faults
use Rattle.zt_text.specs.declared.script.Happening.{Happening}
use Rattle.zx_base.proofs.Options.{none_some, some_is}
use Rattle.zx_base.specs.Maps.{Bytes}
use Rattle.zp_laws.proofs.Honest.{past-records, present-records, records-sound}
use Rattle.zp_step.specs.Stages.{is_served, Core, Stage, Unconnected, Connecting, Ready, KeepingAlive, Checking, Reading, Committing, Waiting, Shut, asked_of}
use Rattle.zp_laws.specs.Inputs.{IsOfEarlierIn, is_first}
use Rattle.zp_laws.specs.Standing.{IsNoView, IsViewAt, Knows}
use Rattle.zp_script.specs.Runs.{RunsFrom}
use Rattle.zp_script.specs.Worlds.{Conn, Connection, Reaper, World, conn_at}
use Rattle.zp_script.specs.declared.flight.Flight.TheVariants.{Carried}
use Rattle.zp_world_laws.proofs.Lives.{known-at}
use Rattle.zp_world_laws.proofs.Running.{first-accounted, runs-grown, within-before}
use Rattle.zp_world_laws.proofs.Transactions.{txn-answered}
use Rattle.zp_world_laws.specs.Accounting.{IsWithinCounts, OffersSession}
use Rattle.zp_world_laws.specs.Connecting.{IsConnectAnswer, IsConnectFlight, IsInStage}
use Rattle.zp_world_laws.specs.Connections.{IsServingConn}
use Rattle.zp_world_laws.specs.Counting.{HasFrames}
use Rattle.zp_world_laws.specs.Reaping.{IsReapAnswer, IsReapAsk, IsReapFlight}
use Rattle.zp_world_laws.specs.Serving.{StoreServes, moment_of}
use Rattle.zp_settle_laws.proofs.Carried.{is-again, is-read}
use Rattle.zp_settle_laws.proofs.Causes.{FindsIn}
use Rattle.zp_settle_laws.proofs.Replays.{IsFineLine, IsFineWorld, IsSoundWorld, first-fine, happens-fine}
use Rattle.zp_settle_laws.proofs.Room.{IsOfScript, later-there, sound-at}
use Rattle.zp_settle_laws.proofs.Roomy.{IsKept, first-roomy, happens-kept, settling-kept}
use Rattle.zp_settle_laws.proofs.Truths.{few-of}
use Rattle.zp_settle_laws.specs.Causes.{ReplaysShowNoDamage}

-- ---- what a look shows is records

abbrev Shown : List Want → Bool → Store → Answer → Type 0
Shown ws b u a = (parts : List ActAns) × (a ≡ answer.Txn (revision u) b parts) × AreRecords ws parts

module _ (s u : Store) (a : Answer) (x : State) where
  read-shown : (ws : List Want) → carry s (reading (pos 0) ws) ≡ Some (u, a) → StandsFor (present u) x → Shown ws true u a
  read-shown ws h stands =
      let d = is-read s u (pos 0) ws a h in
      let txn : TxnReq = record { guards = []; success = ranges_of (pos 0) ws; failure = [] } in (
        d.parts,
        d.is,
        present-records s u txn x ws (revision u) true d.parts (h ∙ ap (λ y. Some (u, y)) d.is) refl (subst (λ (t : Store). StandsFor (present t) x) d.same stands),
      )

  later-shown-records : (n : ℕ) (z : ℤ) (ws : List Want) → carry s (reading z ws) ≡ Some (u, a) → z ≡ pos n → 1 ≤ n → StandsFor (store_at s n) x → Shown ws true u a
  later-shown-records n z ws h is begun stands =
      let d = is-read s u z ws a h in
      let txn : TxnReq = record { guards = []; success = ranges_of z ws; failure = [] } in
      (d.parts, d.is, past-records s u txn x n ws (revision u) true d.parts (h ∙ ap (λ y. Some (u, y)) d.is) (ap (λ y. ranges_of y ws) is) begun stands)

  again-records : (p : Plan) → carry s (transaction p) ≡ Some (u, a) → succeeds s (plan_txn p) ≡ false → StandsFor (present u) x → Shown p.again false u a
  again-records p h fails stands =
      let d = is-again s u p a h fails in (
        d.parts,
        d.is,
        present-records s u (plan_txn p) x p.again (revision u) false d.parts (h ∙ ap (λ y. Some (u, y)) d.is) refl (subst (λ (t : Store). StandsFor (present t) x) d.same stands),
      )

  -- an answer to a plan shows no damaged value: its guards held, or what was read again is records
  plan-sound : (p : Plan) (P : Answer → Type 0) → carry s (transaction p) ≡ Some (u, a) → StandsFor (present u) x → ((parts : List ActAns) → P (answer.Txn (revision u) true parts) → ⊥) → ((parts : List ActAns) → AreRecords p.again parts → P (answer.Txn (revision u) false parts) → ⊥) → P a → ⊥
  plan-sound p P h stands held failed f = go (succeeds s (plan_txn p)) refl
    where
      go : (b : Bool) → succeeds s (plan_txn p) ≡ b → ⊥
      go true e =
          let d = txn-answered s u (plan_txn p) a h in
          held d.0 (subst P (d.1 ∙ ap (λ y. answer.Txn (revision u) y d.0) e) f)
      go false e =
          let r = again-records p h e stands in
          failed r.0 r.2 (subst P r.1 f)

-- ---- a connect

module _ (store : Store) (lines : List TranscriptLine) (c place : ℕ) (x : Connect) (a : Answer) (k : IsConnectAnswer store lines c place x a) (key value : Bytes) where
  asks : (p : Phase) → x.phase ≡ p → asked_in_phase x p ≡ Some k.asked
  asks p e = sym (ap (asked_in_phase x) e) ∙ k.out

  granting-none : (b : Answer) → IsFaultOfConnect x Granting b (faults.Damaged key value) → ⊥
  granting-none (answer.Txn z b parts) f = f
  granting-none (answer.Range z found) f = f
  granting-none (answer.Granted z id ttl) f = f
  granting-none (answer.Alive z id ttl) f = f

  keeping-none : (seen : ℤ) (life : _) (b : Answer) → IsFaultOfConnect x (Keeping seen life) b (faults.Damaged key value) → ⊥
  keeping-none seen life (answer.Txn z b parts) f = f
  keeping-none seen life (answer.Range z found) f = f
  keeping-none seen life (answer.Granted z id ttl) f = f
  keeping-none seen life (answer.Alive z id ttl) f = f

  in-phase : (p : Phase) → x.phase ≡ p → IsFaultOfConnect x p a (faults.Damaged key value) → ⊥
  in-phase Unasked e f = none_some (asks Unasked e)
  in-phase Looking e f =
      let r = read-shown k.before k.then_store a (state_at lines k.looked) (first_wants x.request) (ap (carry k.before) (some_is (asks Looking e)) ∙ k.carried_out) k.stands in
      records-sound (first_wants x.request) r.0 key value r.2 (subst (λ y. IsFaultOfConnect x Looking y (faults.Damaged key value)) r.1 f)
  in-phase Granting e f = granting-none a f
  in-phase Creating e f =
      let p : Plan = record { guards = new_session_guards x.fresh.id; success = (new_session_txn x.fresh (timeout_in x)).success; again = session_wants x.fresh.id; triggers = []; draft = reply.Good body.Empty } in
      plan-sound k.before k.then_store a (state_at lines k.looked) p (λ y. IsFaultOfConnect x Creating y (faults.Damaged key value)) (ap (carry k.before) (some_is (asks Creating e)) ∙ k.carried_out) k.stands
      (λ parts g. g) (λ parts all g. records-sound (session_wants x.fresh.id) parts key value all g) f
  in-phase (Keeping seen life) e f = keeping-none seen life a f
  in-phase LookingAgain e f =
      let r = read-shown k.before k.then_store a (state_at lines k.looked) (attach_wants x.request.session) (ap (carry k.before) (some_is (asks LookingAgain e)) ∙ k.carried_out) k.stands in
      records-sound (attach_wants x.request.session) r.0 key value r.2 (subst (λ y. IsFaultOfConnect x LookingAgain y (faults.Damaged key value)) r.1 f)
  in-phase (Attaching seen life) e f =
      let p : Plan = record { guards = attach_guards x.request.session seen; success = (attach_txn x.request.session seen life).success; again = attach_wants x.request.session; triggers = []; draft = reply.Good body.Empty } in
      plan-sound k.before k.then_store a (state_at lines k.looked) p (λ y. IsFaultOfConnect x (Attaching seen life) y (faults.Damaged key value)) (ap (carry k.before) (some_is (asks (Attaching seen life) e)) ∙ k.carried_out) k.stands
      (λ parts g. g) (λ parts all g. records-sound (attach_wants x.request.session) parts key value all g) f
  in-phase Over e f = none_some (asks Over e)

  connect-sound : IsConnectFault x (Some a) (faults.Damaged key value) → ⊥
  connect-sound f = in-phase x.phase refl f

-- ---- a connection with a session

module _ (store : Store) (lines : List TranscriptLine) (c : ℕ) (core : Core) (a : Answer) (k : IsServingConn store lines c core (Some (Carried a))) (key value : Bytes) where
  asked-so : (st : Stage) → core.stage ≡ st → asked_of core.who st ≡ Some (k.flies).asked
  asked-so st e = sym (ap (asked_of core.who) e) ∙ (k.flies).out

  round-sound : (xid : ℤ) (r : Request) (v : View) (ws : List Want) → core.stage ≡ Reading xid r v ws → Shown ws true (k.flies).then_store a → FindsIn core a key value (Reading xid r v ws) → ⊥
  round-sound xid r v ws e s f = records-sound ws s.0 key value s.2 (subst (λ y. FindsIn core y key value (Reading xid r v ws)) s.1 f)

  first-round : (xid : ℤ) (r : Request) (v : View) (ws : List Want) → core.stage ≡ Reading xid r v ws → IsNoView v → Shown ws true (k.flies).then_store a
  first-round xid r v ws e none =
      let t = k.flies in
      let stood = t.shown (ap is_first e ∙ (Decides-int_eq v.revision (pos 0)).1 none.0) in
      read-shown t.before t.then_store a (state_at lines k.looked) ws (ap (λ z. carry t.before (reading z ws)) (sym none.0) ∙ ap (carry t.before) (some_is (asked-so (Reading xid r v ws) e)) ∙ t.carried_out) stood.stands

  later-round : (xid : ℤ) (r : Request) (v : View) (ws : List Want) → core.stage ≡ Reading xid r v ws → IsViewAt store lines c core.who k.walker v k.looked → Shown ws true (k.flies).then_store a
  later-round xid r v ws e view =
      let t = k.flies in
      let le : view.number ≤ length t.before.revisions = subst (λ st. IsOfEarlierIn st t.before) e t.earlier view.number view.revision in
      later-shown-records t.before t.then_store a (state_at lines k.looked) view.number v.revision ws (ap (carry t.before) (some_is (asked-so (Reading xid r v ws) e)) ∙ t.carried_out) view.revision view.begun
      (subst (λ m. StandsFor m (state_at lines k.looked)) ((t.was).same view.number le) view.stands)

  in-stage : (st : Stage) → core.stage ≡ st → Knows store lines c core k.walker k.looked st → is_served st ≡ true → FindsIn core a key value st → ⊥
  in-stage (Checking g) e h served f =
      let t = k.flies in
      let r = read-shown t.before t.then_store a (state_at lines k.looked) (attach_wants core.who.session) (ap (carry t.before) (some_is (asked-so (Checking g) e)) ∙ t.carried_out) (t.shown (ap is_first e)).stands in
      records-sound (attach_wants core.who.session) r.0 key value r.2 (subst (λ y. FindsIn core y key value (Checking g)) r.1 f)
  in-stage (Reading xid r v ws) e (tree, inl none) served f = round-sound xid r v ws e (first-round xid r v ws e none) f
  in-stage (Reading xid r v ws) e (tree, inr view) served f = round-sound xid r v ws e (later-round xid r v ws e view) f
  in-stage (Committing xid r v p m) e h served f =
      let t = k.flies in
      plan-sound t.before t.then_store a (state_at lines k.looked) p (λ y. FindsIn core y key value (Committing xid r v p m)) (ap (carry t.before) (some_is (asked-so (Committing xid r v p m) e)) ∙ t.carried_out) (t.shown (ap is_first e)).stands
      (λ parts g. g) (λ parts all g. records-sound p.again parts key value all g) f
  in-stage (Connecting x) e h served f = (let g : false ≡ true = served in absurd (cc))
  in-stage (Unconnected fresh) e h served f = f
  in-stage Ready e h served f = f
  in-stage (KeepingAlive g) e h served f = f
  in-stage (Waiting p) e h served f = f
  in-stage Shut e h served f = f

  serving-sound : (st : Stage) → core.stage ≡ st → is_served st ≡ true → FindsIn core a key value st → ⊥
  serving-sound st e served f = in-stage st e (subst (Knows store lines c core k.walker k.looked) e (k.stands).knows) served f

-- ---- a reaper

-- at each revision whose keys stand for a state a session has few nodes
module _ (store : Store) (lines : List TranscriptLine) (begun : IsOfScript store) (serves : StoreServes store lines) (n : ℕ) (known : n ≤ length store.revisions) (x : State) (stands : StandsFor (store_at store n) x) (v : View) (agrees : Agrees v (store_at store n)) where
  late : 2 ≤ n
  late = go (at (store_at store n) HeadKey) refl stands.head
    where
      go : (o : Option Kv) → at (store_at store n) HeadKey ≡ o → HeadMeans o x → 2 ≤ n
      go None e h = absurd h
      go (Some kv) e h = later-there store n (key_bytes HeadKey) kv begun e

  few-above : (m : ℕ) → AreFewOwned (pos (suc m)) v
  few-above m = few-of v (pos (suc m)) (store_at store n) (state_at lines (moment_of lines (pos n))) (omega (arith, ints)) (sound-at store lines n serves late known) (serves.stands n late known) agrees

  -- no session has the number 0
  few-zero : AreFewOwned (pos 0) v
  few-zero kv ps saw nodes = absurd (go (session_at (pos 0) (state_at lines (moment_of lines (pos n)))) refl (subst (λ o. NodesMean (session_at (pos 0) s0) (owned s0.tree (pos 0)) (stored_of o)) there ((serves.stands n late known).each (SessionKey 0))))
    where
      s0 : State
      s0 = state_at lines (moment_of lines (pos n))

      there : at (store_at store n) (SessionKey 0) ≡ Some kv
      there = agrees-seen v (store_at store n) (key_bytes (SessionKey 0)) (Some kv) agrees saw

      go : (o : Option Session) → session_at (pos 0) s0 ≡ o → NodesMean o (owned s0.tree (pos 0)) (stored_of (Some kv)) → ⊥
      go None e h = h
      go (Some y) e h = (let least = (sound-at store lines n serves late known).numbered (pos 0) y e in omega (arith, ints, least))

  few-number : (m : ℕ) → AreFewOwned (pos m) v
  few-number zero = few-zero
  few-number (suc m) = few-above m

  few-here : (id : ℤ) → AreFewOwned id v
  few-here id = few-number (nat_abs id)

-- what was read is records, and of few nodes
fault-free : (id : ℤ) (ws : List Want) (z : ℤ) (parts : List ActAns) (key value : Bytes) → AreRecords ws parts → AreFewOwned id (viewed z ws parts) → IsReadFault id ws z parts (faults.Damaged key value) → ⊥
fault-free id ws z parts key value all few (inl f) = records-sound ws parts key value all f
fault-free id ws z parts key value all few (inr (same, many)) = (let le = few many.kv many.listed many.saw many.nodes in let lt = many.many in omega (arith, le, lt))

module _ (store : Store) (lines : List TranscriptLine) (begun : IsOfScript store) (serves : StoreServes store lines) (r : Reap) (a : Answer) (k : IsReapAnswer store r a) (key value : Bytes) where
  abbrev Finding : ReapPhase → Answer → Type 0
  Finding p (answer.Txn z b parts) = IsReapFaultIn r.session p z b parts (faults.Damaged key value)
  Finding p _ = ⊥

  memory-none : faults.Damaged key value ≡ faults.Memory → ⊥
  memory-none e = cc

  finding : IsReapFault r (Some a) (faults.Damaged key value) → Finding r.phase a
  finding f = go a f
    where
      go : (b : Answer) → IsReapFault r (Some b) (faults.Damaged key value) → Finding r.phase b
      go (answer.Txn z b parts) g = g
      go (answer.Range z found) g = absurd (memory-none g)
      go (answer.Granted z id ttl) g = absurd (memory-none g)
      go (answer.Alive z id ttl) g = absurd (memory-none g)

  -- the store that answered
  then-keys : store_at store (length (k.then_store).revisions) ≡ present k.then_store
  then-keys = (k.is).same (length (k.then_store).revisions) (omega arith)

  few-then : (v : View) → Agrees v (present k.then_store) → AreFewOwned r.session v
  few-then v agrees =
      few-here store lines begun serves (length (k.then_store).revisions) (k.is).longer k.state (subst (λ m. StandsFor m k.state) (sym then-keys) k.stands) v (subst (Agrees v) (sym then-keys) agrees) r.session

  looking-sound : k.asked ≡ reading (pos 0) (first_looked r.session) → Finding reaping.Looking a → ⊥
  looking-sound is f =
      let ws = first_looked r.session in
      let h : carry k.before (reading (pos 0) (first_looked r.session)) ≡ Some (k.then_store, a) = ap (carry k.before) (sym is) ∙ k.carried_out in
      let s = read-shown k.before k.then_store a k.state ws h k.stands in
      let v = first-shown k.before k.then_store ws (revision k.then_store) true s.0 (h ∙ ap (λ y. Some (k.then_store, y)) s.1) in
      fault-free r.session ws (revision k.then_store) s.0 key value s.2
      (few-then (viewed (revision k.then_store) ws s.0) (subst (λ (y : Store). Agrees (viewed (revision k.then_store) ws s.0) (present y)) (sym (v.1).same) (v.1).agrees))
      (subst (Finding reaping.Looking) s.1 f)

  counting-sound : (z : ℤ) (ws : List Want) → IsReapAsk k.before r.session (reaping.Counting z ws) k.asked → Finding (reaping.Counting z ws) a → ⊥
  counting-sound z ws (st, is) f =
      let h : carry k.before (reading z ws) ≡ Some (k.then_store, a) = ap (carry k.before) (sym is) ∙ k.carried_out in
      let s = later-shown-records k.before k.then_store a st.state st.number z ws h st.is st.begun st.stands in
      let v = later-shown k.before k.then_store (at_revision empty_view z) st.number ws (revision k.then_store) true s.0 st.is st.begun (nothing-agrees z (store_at k.before st.number)) (h ∙ ap (λ y. Some (k.then_store, y)) s.1) in
      let same : store_at store st.number ≡ store_at k.before st.number = (k.was).same st.number st.known in
      fault-free r.session ws z s.0 key value s.2
      (few-here store lines begun serves st.number (let le = (k.was).longer in omega (arith, st.known, le)) st.state (subst (λ m. StandsFor m st.state) (sym same) st.stands) (viewed z ws s.0) (subst (Agrees (viewed z ws s.0)) (sym same) v.agrees) r.session)
      (subst (Finding (reaping.Counting z ws)) s.1 f)

  removing-sound : (again : List Want) → IsReapAsk k.before r.session (reaping.Removing again) k.asked → Finding (reaping.Removing again) a → ⊥
  removing-sound again (p, same_again, is, bound) f = go (succeeds k.before (plan_txn p)) refl
    where
      h : carry k.before (transaction p) ≡ Some (k.then_store, a)
      h = ap (carry k.before) (sym is) ∙ k.carried_out

      go : (b : Bool) → succeeds k.before (plan_txn p) ≡ b → ⊥
      go true e =
          let d = txn-answered k.before k.then_store (plan_txn p) a h in
          memory-none (subst (Finding (reaping.Removing again)) (d.1 ∙ ap (λ y. answer.Txn (revision k.then_store) y d.0) e) f)
      go false e =
          let d = is-again k.before k.then_store p a h e in
          let all = present-records k.before k.then_store (plan_txn p) k.state p.again (revision k.then_store) false d.parts (h ∙ ap (λ y. Some (k.then_store, y)) d.is) refl (subst (λ (t : Store). StandsFor (present t) k.state) d.same k.stands) in
          fault-free r.session again (revision k.then_store) d.parts key value (subst (λ ws. AreRecords ws d.parts) same_again all)
          (few-then (viewed (revision k.then_store) again d.parts) (subst (λ (t : Store). Agrees (viewed (revision k.then_store) again d.parts) (present t)) (sym d.same) (subst (λ ws. Agrees (viewed (revision k.then_store) ws d.parts) (present k.before)) same_again d.agrees)))
          (subst (Finding (reaping.Removing again)) d.is f)

  in-reaping : (p : ReapPhase) → r.phase ≡ p → IsReapAsk k.before r.session p k.asked → Finding p a → ⊥
  in-reaping reaping.Unasked e w f = w
  in-reaping reaping.Looking e w f = looking-sound w f
  in-reaping (reaping.Counting z ws) e w f = counting-sound z ws w f
  in-reaping (reaping.Removing again) e w f = removing-sound again w f
  in-reaping reaping.Over e w f = w

  reaper-sound : IsReapFault r (Some a) (faults.Damaged key value) → ⊥
  reaper-sound f = in-reaping r.phase refl k.out (finding f)

-- ---- all of them

module _ (w : World) (h : IsKept w) where
  core-sound : (c : ℕ) (x : Conn) (core : Core) (a : Answer) (key value : Bytes) → conn_at c w ≡ Some x → x.actor ≡ Connection core → x.flight ≡ Some (Carried a) → FindsIn core a key value core.stage → ⊥
  core-sound c x core a key value there actor flight f =
      let n : HasFrames w.lines c x.frames core × IsInStage w.store w.lines c core x.flight core.stage = known-at w c x (Connection core) (h.accounted).known there actor in
      by-stage core.stage refl n.1 f
    where
      served-so : (st : Stage) → core.stage ≡ st → is_served st ≡ true → FindsIn core a key value st → ⊥
      served-so st e served g =
          let k = ((h.accounted).whole).serving c x core there actor (ap is_served e ∙ served) in
          serving-sound w.store w.lines c core a (subst (IsServingConn w.store w.lines c core) flight k) key value st e served g

      by-stage : (st : Stage) → core.stage ≡ st → IsInStage w.store w.lines c core x.flight st → FindsIn core a key value st → ⊥
      by-stage (Unconnected fresh) e n g = g
      by-stage (Connecting y) e n g = connect-sound w.store w.lines c n.place y a (subst (IsConnectFlight w.store w.lines c n.place y) flight n.flies) key value g
      by-stage Ready e n g = g
      by-stage (KeepingAlive b) e n g = g
      by-stage (Checking b) e n g = served-so (Checking b) e refl g
      by-stage (Reading xid r v ws) e n g = served-so (Reading xid r v ws) e refl g
      by-stage (Committing xid r v p m) e n g = served-so (Committing xid r v p m) e refl g
      by-stage (Waiting p) e n g = g
      by-stage Shut e n g = g

  kept-sound : IsSoundWorld true w
  kept-sound = record {
    cores = λ c x core a there actor flight key value f. absurd (core-sound c x core a key value there actor flight f);
    reapers = λ c x r a key value there actor flight f. absurd (reaper-sound w.store w.lines ((h.roomy).store) ((((h.accounted).whole).holds).serves) r a (subst (IsReapFlight w.store r) flight (known-at w c x (Reaper r) (h.accounted).known there actor)) key value f);
  }

-- ---- in every run

runs-undamaged : (w w' : World) (hs : List Happening) (ticks : List Tick) → All OffersSession hs → IsWithinCounts w' → RunsFrom w hs ticks w' → IsKept w → IsFineWorld true w → IsFineWorld true w'
runs-undamaged w w' [] ticks offers within (none, same) k fine = subst (IsFineWorld true) (sym same) fine
runs-undamaged w w' (h ∷ hs) ticks offers within (mid, more, one, e, rest) k fine =
    runs-undamaged mid w' hs more (All-tail OffersSession h hs offers) within rest
    (happens-kept w mid h (All-head OffersSession h hs offers) (within-before mid w' (runs-grown mid w' hs more rest) within) one k)
    (happens-fine true IsKept kept-sound settling-kept w mid h one k fine)

pub replays-show-no-damage : ReplaysShowNoDamage
replays-show-no-damage hs ticks w c key value offers within (first, begins, runs) there =
    let fine = runs-undamaged first w hs ticks offers within runs (record { accounted = first-accounted first begins; roomy = first-roomy first begins }) (first-fine true first begins) in
    let never : true ≡ false = All-contains (IsFineLine true) w.lines (Close c (ended.Cause (cause.Damaged key value))) fine.lines there in
    absurd (cc)
