-- A settle leaves an attached connection open, whose session lives, unless the store denies what it asks.
use Rattle.std.proofs.Common.{◌≡◌, ℕ, zero, suc, List, [], ◌∷◌, ◌++◌, append-nil, append_assoc, refl, sym, ap, ◌∙◌, subst, arith, Bool, true, false, ℤ, inl, inr}
use Rattle.std.specs.Arc.{arc_value}
use Rattle.std.specs.Ordering.{int_eq}
use Rattle.std.specs.Prelude.{Contains, Option, Some, None, ◌⊎◌, fold, if◌then◌else◌, option_and_then}
use Rattle.std.proofs.lemmas.List.Elements.{Contains-append_right}
use Rattle.ev_types.specs.Denials.{carry}
use Rattle.ev_types.specs.Store.{Store}
use Rattle.ev_types.specs.declared.answer.Answer.{Answer}
use Rattle.zk_model.specs.declared.request.Request.TheVariants as req
use Rattle.zk_model.specs.declared.request.Request.{Request}
use Rattle.zk_transcript.proofs.Appending.{after-push}
use Rattle.zk_service.specs.States.{Commit, State, committed, session_at}
use Rattle.zk_transcript.specs.History.{after, asked_commit, updated}
use Rattle.zk_service.specs.declared.cause.Cause.TheVariants as cause
use Rattle.zk_service.specs.declared.cause.Ended.TheVariants as ended
use Rattle.zk_transcript.specs.declared.transcript.TranscriptLine.TheVariants.{Close, Send, Update}
use Rattle.zk_transcript.specs.declared.transcript.TranscriptLine.{TranscriptLine}
use Rattle.zk_service.specs.declared.update.UpdateKind.TheVariants.{Asked}
use Rattle.zk_service.specs.declared.update.UpdateKind.{UpdateKind}
use Rattle.zn_layout.specs.declared.entry.Entry.{Entry}
use Rattle.zn_view.specs.declared.plan.Who.{Who}
use Rattle.zt_text.specs.declared.script.Happening.{Happening}
use Rattle.zx_base.proofs.Options.{none_some, some_is, some-from_is_some as some-there}
use Rattle.zp_laws.proofs.Steps.{sends_are_walks}
use Rattle.zp_step.specs.Stages.{is_served, Core, Stage, Unconnected, Connecting, Ready, KeepingAlive, Checking, Reading, Committing, Waiting, Shut, is_shut}
use Rattle.zp_laws.specs.Inputs.{IsTrueEntry, IsTrueInput}
use Rattle.zp_step.proofs.Shutting.{ends-named, steps-open}
use Rattle.zp_step.specs.Steps.{Steps as CoreSteps}
use Rattle.zp_step.specs.declared.action.Action.TheVariants as action
use Rattle.zp_step.specs.declared.action.Action.{Action}
use Rattle.zp_step.specs.declared.input.Input.TheVariants as input
use Rattle.zp_step.specs.declared.input.Input.{Input}
use Rattle.zp_script.specs.Carrying.{CarriedBy, Executes}
use Rattle.zp_script.specs.Effects.{Delivers, Does, EntersBy, IsEntry}
use Rattle.zp_script.specs.Entries.{next_entry}
use Rattle.zp_script.specs.Faults.{flight_at}
use Rattle.zp_script.specs.Handing.{AnswerComes, AnswerComesTo, FailureComes, FailureComesTo, Handed}
use Rattle.zp_script.specs.Happens.{Settles, flight_line, settling, settling_conn}
use Rattle.zp_script.specs.Kinds.{kind_asked}
use Rattle.zp_step.specs.Kinds.{kind_in_stage, kind_of_request}
use Rattle.zp_script.specs.StepOutcomes.{StepOutcome, acts, acts_all, quiet}
use Rattle.zp_script.specs.Worlds.{Closed, Conn, Connection, World, after_step, conn_at, is_closed_actor, with_conn, zxid_at}
use Rattle.zp_script.specs.declared.flight.Asking.{Asking}
use Rattle.zp_script.specs.declared.flight.Flight.TheVariants.{Carried, Denied, Out}
use Rattle.zp_script.specs.declared.flight.Flight.{Flight}
use Rattle.zp_world_laws.proofs.Accounts.{exec-accounted}
use Rattle.zp_world_laws.proofs.Arrivals.{acts-accounted}
use Rattle.zp_world_laws.proofs.Effects.{stored-in}
use Rattle.zp_world_laws.proofs.Ends.{landed-is}
use Rattle.zp_world_laws.proofs.Entering.{next-true}
use Rattle.zp_world_laws.proofs.Handing.{core-same}
use Rattle.zp_world_laws.proofs.Lives.{answer-acts, entry-acts}
use Rattle.zp_world_laws.proofs.Numbers.{conn-here}
use Rattle.zp_world_laws.specs.Accounting.{IsAccounted}
use Rattle.zp_world_laws.specs.Connections.{IsFlying, IsServingConn}
use Rattle.zp_world_laws.specs.Serving.{kind_lines, update_lines}
use Rattle.zp_settle_laws.proofs.Ending.{is-entry, is-flight}
use Rattle.zp_settle_laws.proofs.Shown.{answer-shows}
use Rattle.zp_settle_laws.proofs.Staying.{answer-lasting, entry-lasting}
use Rattle.zp_settle_laws.specs.Staying.{IsAttachedHere, IsDenied, IsLasting, IsLastingIn, SettlesOpen, StaysOpen, is_close}
use Rattle.zx_base.proofs.Booleans.{true-not_false as true-false}

-- ---- what lasts is open, and attached

pub lasting-served : (st : Stage) → IsLastingIn st → is_served st ≡ true
lasting-served (Unconnected fresh) h = absurd h
lasting-served (Connecting x) h = absurd h
lasting-served Ready h = refl
lasting-served (KeepingAlive f) h = refl
lasting-served (Checking f) h = refl
lasting-served (Reading xid r v ws) h = refl
lasting-served (Committing xid r v p m) h = refl
lasting-served (Waiting p) h = refl
lasting-served Shut h = absurd h

pub lasting-open : (st : Stage) → IsLastingIn st → is_shut st ≡ false
lasting-open (Unconnected fresh) h = refl
lasting-open (Connecting x) h = refl
lasting-open Ready h = refl
lasting-open (KeepingAlive f) h = refl
lasting-open (Checking f) h = refl
lasting-open (Reading xid r v ws) h = refl
lasting-open (Committing xid r v p m) h = refl
lasting-open (Waiting p) h = refl
lasting-open Shut h = absurd h

pub here-as : (lines lines' : List TranscriptLine) (who who' : Who) → who' ≡ who → session_at who.session (after lines') ≡ session_at who.session (after lines) → IsAttachedHere lines who → IsAttachedHere lines' who'
here-as lines lines' who who' same e h = subst (IsAttachedHere lines') (sym same) (record { session = h.session; there = e ∙ h.there; alive = h.alive; mine = h.mine })

-- ---- its own updates leave its session

pub asked-sessions : (before : List TranscriptLine) (s : State) (z id : ℤ) (c i m : ℕ) → session_at id (updated before s z (Asked c i m)) ≡ session_at id s
unfolding updated
asked-sessions before s z id c i m = go (asked_commit before s z c i m)
  where
    go : (o : Option Commit) → session_at id (committed s z o) ≡ session_at id s
    go None = refl
    go (Some x) = refl

-- what it has out is a request's update, or none
request-own : (c i m : ℕ) (id : ℤ) (r : Request) → is_close r ≡ false → kind_of_request c i id m r ≡ Asked c i m
request-own c i m id req.Close h = absurd (true-false h)
request-own c i m id _ h = refl

kind-own : (c : ℕ) (core : Core) (st : Stage) → IsLastingIn st → (kind_in_stage c core st ≡ None) ⊎ ((d i m : ℕ) × (kind_in_stage c core st ≡ Some (Asked d i m)))
kind-own c core (Unconnected fresh) h = absurd h
kind-own c core (Connecting x) h = absurd h
kind-own c core Ready h = inl refl
kind-own c core (KeepingAlive f) h = inl refl
kind-own c core (Checking f) h = inl refl
kind-own c core (Reading xid r v ws) h = inl refl
kind-own c core (Committing xid r v p m) h = inr (c, core.next, m, ap (λ k. Some k) (request-own c core.next m core.who.session r h))
kind-own c core (Waiting p) h = inl refl
kind-own c core Shut h = absurd h

update-session : (s u : Store) (lines : List TranscriptLine) (id : ℤ) (o : Option UpdateKind) → (o ≡ None) ⊎ ((d i m : ℕ) × (o ≡ Some (Asked d i m))) → session_at id (after (lines ++ update_lines s u o)) ≡ session_at id (after lines)
update-session s u lines id o own = go (int_eq (zxid_at s) (zxid_at u)) o own
  where
    go : (b : Bool) (p : Option UpdateKind) → (p ≡ None) ⊎ ((d i m : ℕ) × (p ≡ Some (Asked d i m))) → session_at id (after (lines ++ (if b then [] else kind_lines u p))) ≡ session_at id (after lines)
    go true p h = ap (λ l. session_at id (after l)) (append-nil lines)
    go false None h = ap (λ l. session_at id (after l)) (append-nil lines)
    go false (Some k) (inl e) = absurd (none_some (sym e))
    go false (Some k) (inr (d, i, m, e)) =
        let l = Update (record { zxid = zxid_at u; kind = k }) in
        ap (session_at id) (after-push lines l) ∙ ap (λ q. session_at id (updated lines (after lines) (zxid_at u) q)) (some_is e) ∙ asked-sessions lines (after lines) (zxid_at u) id d i m

-- ---- packets leave every session

acts-after : (ls : List TranscriptLine) (c : ℕ) (kind : Option UpdateKind) (out : List Action) (o : StepOutcome) → after (ls ++ (fold (acts c kind []) o out).lines) ≡ after (ls ++ o.lines)
acts-after ls c kind [] o = refl
acts-after ls c kind (action.Send bytes ∷ out) o = acts-after ls c kind out (acts c kind [] o (action.Send bytes)) ∙ ap after (sym (append_assoc ls o.lines (Send c bytes ∷ []))) ∙ after-push (ls ++ o.lines) (Send c bytes)
acts-after ls c kind (action.Ask a ∷ out) o = acts-after ls c kind out (acts c kind [] o (action.Ask a))
acts-after ls c kind (action.Close why ∷ out) o =
    acts-after ls c kind out (acts c kind [] o (action.Close why)) ∙ ap (λ l. after (ls ++ (l ++ Close c (ended.Cause why) ∷ []))) (append-nil o.lines) ∙ ap after (sym (append_assoc ls o.lines (Close c (ended.Cause why) ∷ [])))
    ∙ after-push (ls ++ o.lines) (Close c (ended.Cause why))

-- ---- a step

module _ (w w' : World) (c : ℕ) (i : Input) (hd : Handed c [] w i w') where
  step-after : after w'.lines ≡ after w.lines
  step-after =
      ap (λ (u : World). after u.lines) hd.result
      ∙ acts-after w.lines c (kind_asked c (Connection hd.next)) hd.out (quiet hd.conn.flight)
      ∙ ap after (append-nil w.lines)

  pub step-stays : IsLasting hd.next → hd.next.who ≡ hd.core.who → IsAttachedHere w.lines hd.core.who → StaysOpen c w'
  step-stays lasting who here = record {
    conn = record (hd.conn) { actor = after_step hd.next; flight = (acts_all c (kind_asked c (Connection hd.next)) [] hd.conn.flight hd.out).flight };
    core = hd.next;
    there = ap (conn_at c) hd.result ∙ conn-here w c (record (hd.conn) { actor = after_step hd.next; flight = (acts_all c (kind_asked c (Connection hd.next)) [] hd.conn.flight hd.out).flight });
    actor = ap (λ b. if b then Closed else Connection hd.next) (lasting-open hd.next.stage lasting.work);
    lasting = lasting;
    here = here-as w.lines w'.lines hd.core.who hd.next.who who (ap (session_at hd.core.who.session) step-after) here;
  }

-- the one that acts stays who it is
who-same : (w : World) (c : ℕ) (x : Conn) (core next : Core) (i : Input) (out : List Action) (k : IsAccounted w) (there : conn_at c w ≡ Some x) (actor : x.actor ≡ Connection core) (served : is_served core.stage ≡ true)
    → IsTrueInput w.store w.lines c core ((k.whole).serving c x core there actor served).walker ((k.whole).serving c x core there actor served).looked i → CoreSteps core i w.clock next out → next.who ≡ core.who
who-same w c x core next i out k there actor served true_input stepped =
    let s = (k.whole).serving c x core there actor served in
    (sends_are_walks w.store w.lines c core next s.walker s.looked w.clock i out (record { legal = ((k.whole.holds).serves).legal; least = s.least; most = s.most; rises = s.rises; served = served; stands = s.stands; true_input = true_input }) stepped).who

module _ (w w' : World) (c : ℕ) (s : StaysOpen c w) (k : IsAccounted w) where
  served : is_served s.core.stage ≡ true
  served = lasting-served s.core.stage (s.lasting).work

  serves : IsServingConn w.store w.lines c s.core s.conn.flight
  serves = (k.whole).serving c s.conn s.core s.there s.actor served

  -- ---- an answer

  pub answer-stays : (a : Answer) → s.conn.flight ≡ Some (Carried a) → Handed c [] (with_conn w c (record (s.conn) { flight = None })) (input.Answer a) w' → StaysOpen c w'
  unfolding serves
  answer-stays a flight hd =
      let is_conn : record (s.conn) { flight = None } ≡ hd.conn = some_is (sym (conn-here w c (record (s.conn) { flight = None })) ∙ hd.found) in
      let is_core : s.core ≡ hd.core = core-same s.core hd.core (sym s.actor ∙ ap (λ (u : Conn). u.actor) is_conn ∙ hd.serving) in
      let stepped : CoreSteps s.core (input.Answer a) w.clock hd.next hd.out = subst (λ (q : Core). CoreSteps q (input.Answer a) w.clock hd.next hd.out) (sym is_core) hd.stepped in
      let opens = (k.whole).unshut c s.conn s.core s.there s.actor in
      let flies = subst (IsFlying w.store w.lines c s.core serves.walker serves.looked) flight serves.flies in
      let carried : IsServingConn w.store w.lines c s.core (Some (Carried a)) = subst (IsServingConn w.store w.lines c s.core) flight serves in
      let shows = answer-shows w.store w.lines c s.core a ((k.whole.holds).serves) s.here carried in
      let lasting = answer-lasting s.core hd.next a w.clock hd.out serves.rises shows s.lasting (steps-open s.core hd.next (input.Answer a) w.clock hd.out opens stepped) in
      let who = who-same w c s.conn s.core hd.next (input.Answer a) hd.out k s.there s.actor served flies stepped in
      step-stays (with_conn w c (record (s.conn) { flight = None })) w' c (input.Answer a) hd lasting (who ∙ ap (λ (q : Core). q.who) is_core) (subst (λ (q : Core). IsAttachedHere w.lines q.who) is_core s.here)

  failure-denied : Handed c [] (with_conn w c (record (s.conn) { flight = None })) input.Failed w' → IsDenied c w'
  failure-denied hd =
      let w1 = with_conn w c (record (s.conn) { flight = None }) in
      let is_conn : record (s.conn) { flight = None } ≡ hd.conn = some_is (sym (conn-here w c (record (s.conn) { flight = None })) ∙ hd.found) in
      let is_core : s.core ≡ hd.core = core-same s.core hd.core (sym s.actor ∙ ap (λ (u : Conn). u.actor) is_conn ∙ hd.serving) in
      let opens : is_shut hd.core.stage ≡ false = ap (λ (q : Core). is_shut q.stage) (sym is_core) ∙ (k.whole).unshut c s.conn s.core s.there s.actor in
      let e = ends-named hd.core hd.next input.Failed cause.LinkFault w1.clock hd.out opens refl hd.stepped in
      let o = acts_all c (kind_asked c (Connection hd.next)) [] hd.conn.flight hd.out in
      record {
        conn = record (hd.conn) { actor = after_step hd.next; flight = o.flight };
        there = ap (conn_at c) hd.result ∙ conn-here w1 c (record (hd.conn) { actor = after_step hd.next; flight = o.flight });
        closed = ap (λ st. is_closed_actor (if is_shut st then Closed else Connection hd.next)) e.0;
        shown = subst (λ l. Contains l (Close c (ended.Cause cause.LinkFault))) (sym (ap (λ (u : World). u.lines) hd.result ∙ ap (λ l. w.lines ++ (acts_all c (kind_asked c (Connection hd.next)) [] hd.conn.flight l).lines) e.1))
            (Contains-append_right w.lines (Close c (ended.Cause cause.LinkFault) ∷ []) (Close c (ended.Cause cause.LinkFault)) (0, omega arith, refl));
      }

  -- ---- an entry

  entry-stays : (e : Entry) (x : _) → next_entry c w ≡ Some e → arc_value x ≡ e → Handed c [] w (input.Entry x) w' → StaysOpen c w'
  entry-stays e x next is hd =
      let is_conn : s.conn ≡ hd.conn = some_is (sym s.there ∙ hd.found) in
      let is_core : s.core ≡ hd.core = core-same s.core hd.core (sym s.actor ∙ ap (λ (u : Conn). u.actor) is_conn ∙ hd.serving) in
      let stepped : CoreSteps s.core (input.Entry x) w.clock hd.next hd.out = subst (λ (q : Core). CoreSteps q (input.Entry x) w.clock hd.next hd.out) (sym is_core) hd.stepped in
      let opens = (k.whole).unshut c s.conn s.core s.there s.actor in
      let t = next-true w c s.conn s.core e s.there s.actor serves k.entries next in
      let lasting = entry-lasting s.core hd.next x w.clock hd.out s.lasting (steps-open s.core hd.next (input.Entry x) w.clock hd.out opens stepped) in
      let who = who-same w c s.conn s.core hd.next (input.Entry x) hd.out k s.there s.actor served (subst (λ y. IsTrueEntry w.lines s.core y) (sym is) t) stepped in
      step-stays w w' c (input.Entry x) hd lasting (who ∙ ap (λ (q : Core). q.who) is_core) (subst (λ (q : Core). IsAttachedHere w.lines q.who) is_core s.here)

  pub taken-stays : (e : Entry) (i : Input) → next_entry c w ≡ Some e → IsEntry e i → Handed c [] w i w' → StaysOpen c w'
  taken-stays e (input.Entry x) next is hd = entry-stays e x next is hd
  taken-stays e (input.Frame b) next is hd = absurd is
  taken-stays e (input.Answer a) next is hd = absurd is
  taken-stays e input.Failed next is hd = absurd is
  taken-stays e (input.BadLength p n) next is hd = absurd is
  taken-stays e (input.Lagged p n) next is hd = absurd is
  taken-stays e input.FeedClosed next is hd = absurd is
  taken-stays e (input.ClientEnd p) next is hd = absurd is

  -- ---- what it has out is carried out

  executes-stays : (a : Asking) → s.conn.flight ≡ Some (Out a) → Executes c w w' → StaysOpen c w'
  executes-stays a flight ex =
      let is_conn : s.conn ≡ ex.conn = some_is (sym s.there ∙ ex.found) in
      let same : ex.asking ≡ a = asking-same ex.asking a (sym ex.out ∙ ap (λ (u : Conn). u.flight) (sym is_conn) ∙ flight) in
      let out : IsFlying w.store w.lines c s.core serves.walker serves.looked (Some (Out a)) = subst (IsFlying w.store w.lines c s.core serves.walker serves.looked) flight serves.flies in
      let own = kind-own c s.core s.core.stage (s.lasting).work in
      let kind : ex.asking.kind ≡ kind_in_stage c s.core s.core.stage = ap (λ (y : Asking). y.kind) same ∙ out.kind in
      record {
        conn = record (ex.conn) { flight = Some ex.flight };
        core = s.core;
        there = ap (conn_at c) ex.result ∙ conn-here ex.mid c (record (ex.conn) { flight = Some ex.flight });
        actor = ap (λ (u : Conn). u.actor) (sym is_conn) ∙ s.actor;
        lasting = s.lasting;
        here = here-as w.lines w'.lines s.core.who s.core.who refl (ap (λ (u : World). session_at s.core.who.session (after u.lines)) ex.result ∙ mid-session ex (subst (λ o. (o ≡ None) ⊎ ((d i m : ℕ) × (o ≡ Some (Asked d i m)))) (sym kind) own)) s.here;
      }
    where
      asking-same : (x y : Asking) → Some (Out x) ≡ Some (Out y) → x ≡ y
      asking-same x y e = cc

      mid-session : (ex : Executes c w w') → (ex.asking.kind ≡ None) ⊎ ((d i m : ℕ) × (ex.asking.kind ≡ Some (Asked d i m))) → session_at s.core.who.session (after ex.mid.lines) ≡ session_at s.core.who.session (after w.lines)
      mid-session ex own = go (carry w.store ex.asking.ask) ex.carries
        where
          go : (o : Option (Store × Answer)) → CarriedBy w ex.asking.kind ex.flight ex.mid o → session_at s.core.who.session (after ex.mid.lines) ≡ session_at s.core.who.session (after w.lines)
          go None p = ap (λ (u : World). session_at s.core.who.session (after u.lines)) p.1
          go (Some r) p = ap (λ l. session_at s.core.who.session (after l)) (stored-in w ex.mid r.0 ex.asking.kind p.1).lines ∙ update-session w.store r.0 w.lines s.core.who.session ex.asking.kind own

  -- ---- a line of settle

  pub line-stays : (h : Happening) → settling c w ≡ Some h → Does w h w' → (StaysOpen c w' ⊎ IsDenied c w') × IsAccounted w'
  line-stays h e does = by-flight s.conn.flight refl (is-flight w c s.conn s.there h e)
    where
      landed_to : (f : Option Flight) → s.conn.flight ≡ f → Delivers c w w' f → StaysOpen c w' ⊎ IsDenied c w'
      landed_to None g d = absurd d
      landed_to (Some (Out b)) g d = absurd d
      landed_to (Some (Carried a)) g d =
          let v : World = with_conn w c (record (s.conn) { flight = None }) in
          let t : AnswerComes c v a w' = subst (λ u. AnswerComes c u a w') (landed-is w c s.conn s.there) d in
          let is : t.0 ≡ record (s.conn) { flight = None } = some_is (sym t.1 ∙ conn-here w c (record (s.conn) { flight = None })) in
          inl (answer-stays a g (subst (λ b. AnswerComesTo c v (record (s.conn) { flight = None }) a w' b) s.actor (subst (λ (y : Conn). AnswerComesTo c v y a w' y.actor) is t.2)))
      landed_to (Some Denied) g d =
          let v : World = with_conn w c (record (s.conn) { flight = None }) in
          let t : FailureComes c v w' = subst (λ u. FailureComes c u w') (landed-is w c s.conn s.there) d in
          let is : t.0 ≡ record (s.conn) { flight = None } = some_is (sym t.1 ∙ conn-here w c (record (s.conn) { flight = None })) in
          inr (failure-denied (subst (λ b. FailureComesTo c v (record (s.conn) { flight = None }) w' b) s.actor (subst (λ (y : Conn). FailureComesTo c v y w' y.actor) is t.2)))

      delivered : Delivers c w w' (flight_at c w) → (StaysOpen c w' ⊎ IsDenied c w') × IsAccounted w'
      delivered d = (landed_to s.conn.flight refl (subst (Delivers c w w') (ap (option_and_then (λ (y : Conn). y.flight)) s.there) d), acts-accounted w w' c k (answer-acts w w' c d k))

      by-flight : (f : Option Flight) → s.conn.flight ≡ f → flight_line c w s.conn f ≡ Some h → (StaysOpen c w' ⊎ IsDenied c w') × IsAccounted w'
      by-flight (Some (Out a)) g p = let ex = subst (λ j. Does w j w') (sym (some_is p)) does in (inl (executes-stays a g ex), exec-accounted w w' c ex k)
      by-flight (Some (Carried a)) g p = delivered (subst (λ j. Does w j w') (sym (some_is p)) does)
      by-flight (Some Denied) g p = delivered (subst (λ j. Does w j w') (sym (some_is p)) does)
      by-flight None g p =
          let n = is-entry w c s.conn s.there h p in
          let d : EntersBy c w w' (next_entry c w) = subst (λ j. Does w j w') (sym n.0) does in
          let idle : flight_at c w ≡ None = ap (option_and_then (λ (y : Conn). y.flight)) s.there ∙ g in
          let t = some-there (next_entry c w) n.1 in
          let y : EntersBy c w w' (Some t.0) = subst (EntersBy c w w') t.1 d in
          (inl (taken-stays t.0 y.0 t.1 y.1 y.2), acts-accounted w w' c k (entry-acts w w' c (next_entry c w) refl d idle k))

-- ---- a settle

closed-done : (w : World) (c : ℕ) → IsDenied c w → settling c w ≡ None
closed-done w c d = ap (settling_conn c w) d.there ∙ ap (λ b. if b then None else flight_line c w d.conn d.conn.flight) d.closed

abbrev SettlesOn : ℕ → ℕ → World → World → Option Happening → Type 0
SettlesOn n c w w' o = elim o [ None ↦ w' ≡ w | Some h ↦ (mid : World) × Does w h mid × Settles n c mid w' ]

denied-stays : (n c : ℕ) (w w' : World) → IsDenied c w → Settles n c w w' → IsDenied c w'
denied-stays zero c w w' d h = subst (IsDenied c) (sym h) d
denied-stays (suc n) c w w' d h = go (settling c w) refl h
  where
    go : (o : Option Happening) → settling c w ≡ o → SettlesOn n c w w' o → IsDenied c w'
    go None e g = subst (IsDenied c) (sym g) d
    go (Some x) e g = absurd (none_some (sym (closed-done w c d) ∙ e))

stays : (n c : ℕ) (w w' : World) → IsAccounted w → StaysOpen c w → Settles n c w w' → StaysOpen c w' ⊎ IsDenied c w'
stays zero c w w' k s h = inl (subst (StaysOpen c) (sym h) s)
stays (suc n) c w w' k s h = go (settling c w) refl (λ mid. stays n c mid w') h
  where
    go : (o : Option Happening) → settling c w ≡ o → ((mid : World) → IsAccounted mid → StaysOpen c mid → Settles n c mid w' → StaysOpen c w' ⊎ IsDenied c w') → SettlesOn n c w w' o → StaysOpen c w' ⊎ IsDenied c w'
    go None e later g = inl (subst (StaysOpen c) (sym g) s)
    go (Some x) e later (mid, does, rest) = by-step (line-stays w mid c s k x e does)
      where
        by-step : (StaysOpen c mid ⊎ IsDenied c mid) × IsAccounted mid → StaysOpen c w' ⊎ IsDenied c w'
        by-step (inl still, accounted) = later mid accounted still rest
        by-step (inr denied, accounted) = inr (denied-stays n c mid w' denied rest)

pub settles-open : SettlesOpen
settles-open w w' c n k s h = stays n c w w' k s h
