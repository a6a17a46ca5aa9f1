-- What a connection or a reaper does by itself, by the lines of a script.
use Rattle.zp_world_laws.proofs.Knowing.{close-ends}
use Rattle.ev_types.specs.declared.answer.Answer.{Answer}
use Rattle.std.proofs.Common.{Bool, List, [], ap, arith, false, inl, inr, refl, subst, sym, true, ℕ, ℤ, ◌∙◌, ◌∷◌, ◌≡◌}
use Rattle.std.specs.FinMap.{entries, entries_sorted, find, get-entries, is_sorted}
use Rattle.std.specs.Ordering.{nat_cmp}
use Rattle.std.specs.Prelude.{None, Option, Some, fold, if◌then◌else◌, option_and_then}
use Rattle.zk_transcript.specs.History.{after}
use Rattle.zk_service.specs.declared.cause.Cause.TheVariants as cause
use Rattle.zk_service.specs.declared.cause.Ended.TheVariants as ended
use Rattle.zn_layout.specs.declared.entry.Entry.{Entry}
use Rattle.zp_script.specs.Effects.{Delivers, EndsBy, EntersBy, IsEntry, LagsBy, is_open_at, restarted, stopped}
use Rattle.zp_script.specs.Entries.{cursor_of, cursor_wanted, entry_after, next_entry}
use Rattle.zp_script.specs.Faults.{flight_at}
use Rattle.zp_script.specs.Handing.{AnswerComes, AnswerComesTo, FailureComes, FailureComesTo, Handed, Reaps, landed, landed_conn}
use Rattle.zp_script.specs.StepOutcomes.{ended_by, leaves, quiet}
use Rattle.zp_script.specs.Worlds.{Actor, Closed, Conn, Connection, Reaper, World, conn_at, with_conn}
use Rattle.zp_script.specs.declared.flight.Flight.TheVariants.{Carried, Denied, Out}
use Rattle.zp_script.specs.declared.flight.Flight.{Flight}
use Rattle.zp_step.proofs.Ending.{steps_end_well}
use Rattle.zp_step.specs.Ending.{comes_in, sends}
use Rattle.zp_step.specs.Stages.{is_served, Checking, Committing, Connecting, Core, KeepingAlive, Reading, Ready, Shut, Stage, Unconnected, Waiting, is_shut, wanted_in, wants_of}
use Rattle.zp_laws.specs.Inputs.{IsTrueEntry}
use Rattle.zp_step.specs.declared.input.Input.TheVariants as input
use Rattle.zp_step.specs.declared.input.Input.{Input}
use Rattle.zp_world_laws.proofs.Acting.{Acts, ends-own, leaves-acts}
use Rattle.zp_world_laws.proofs.Arrivals.{acts-accounted}
use Rattle.zp_world_laws.proofs.Closing.{But, but-of, ends-whole}
use Rattle.zp_world_laws.proofs.Delivering.{entry-idle}
use Rattle.zp_world_laws.proofs.Ends.{landed-but, landed-is}
use Rattle.zp_world_laws.proofs.Entering.{next-true}
use Rattle.zp_world_laws.proofs.Greeting.{greeted-acts}
use Rattle.zp_world_laws.proofs.Handing.{IsReadyFor, core-same, handed-whole, stays-served}
use Rattle.zp_world_laws.proofs.Numbers.{conn-here, conn-there, either-number}
use Rattle.zp_world_laws.proofs.Reapers.{reaps-acts}
use Rattle.zp_world_laws.proofs.Restarting.{Distinct, Gives, all-found, gives-as, gives-others, sorted-distinct}
use Rattle.zp_world_laws.proofs.Stepping.{closes-acts, counts-on, handed-acts}
use Rattle.zp_world_laws.proofs.Within.{within-close, within-more}
use Rattle.zp_world_laws.specs.Accounting.{IsAccounted}
use Rattle.zp_world_laws.specs.Bounds.{attachment}
use Rattle.zp_world_laws.specs.Connecting.{IsConnecting, IsInStage}
use Rattle.zp_world_laws.specs.Connections.{IsFlying, IsServingConn, Whole, is_carried}
use Rattle.zp_world_laws.specs.Counting.{HasFrames}
use Rattle.zp_world_laws.specs.Knowing.{IsKnownAs, Known}
use Rattle.zp_world_laws.specs.Reaping.{IsReapFlight}
use Rattle.zs_reap.specs.declared.reap.Reap.{Reap}
use Rattle.zx_base.proofs.Options.{none_some, some_is}
use Rattle.zx_base.proofs.Booleans.{true-from_T as is-true, true-not_false as true-false}

-- ---- its ask has landed

-- who acts once its ask has landed acts from the world before that
acts-landed : (w w' : World) (c : ℕ) (x : Conn) → conn_at c w ≡ Some x → Acts (with_conn w c (record x { flight = None })) w' c → Acts w w' c
acts-landed w w' c x there a = record {
  whole = a.whole;
  store = a.store;
  entries = a.entries;
  more = a.more;
  lines = a.lines;
  own = a.own;
  others = λ d apart. a.others d apart ∙ conn-there w c d (record x { flight = None }) apart;
  now = a.now;
  there = a.there;
  frames = λ y e. (
      let same = ap (λ (u : Conn). u.frames) (some_is (sym there ∙ e)) in
      let more = a.frames (record x { flight = None }) (conn-here w c (record x { flight = None })) in
      omega (arith, same, more));
  known = a.known;
  within = a.within;
}

-- whole again, where no session is attached to it
landed-whole : (w : World) (c : ℕ) (x : Conn) → conn_at c w ≡ Some x → ((core : Core) → x.actor ≡ Connection core → is_served core.stage ≡ true → ⊥) → Whole w → Whole (with_conn w c (record x { flight = None }))
landed-whole w c x there unserved h =
    let b = landed-but w c x there h in
    let v : Conn = record x { flight = None } in
    record {
      holds = b.holds;
      serving = λ d y core e a s. elim (either-number d c) [
        | inl same ↦ absurd (unserved core (ap (λ (u : Conn). u.actor) (some_is (sym (conn-here w c v) ∙ ap (λ n. conn_at n (with_conn w c v)) (sym same) ∙ e)) ∙ a) s)
        | inr apart ↦ b.serving d y core apart e a s
      ];
      unshut = b.unshut;
      own = b.own;
      left = b.left;
      small = b.small;
    }

-- ---- it fails

failure-acts : (w w' : World) (c : ℕ) (x : Conn) (a : Actor) → x.actor ≡ a → conn_at c w ≡ Some x → FailureComesTo c w x w' a → But w c → Acts w w' c
failure-acts w w' c x (Connection core) e there f h = closes-acts w w' c input.Failed cause.LinkFault refl f h
failure-acts w w' c x (Reaper r) e there f h =
    leaves-acts w w' c x Closed (ended_by c cause.LinkFault x.flight) there f (ends-own c [] (ended.Cause cause.LinkFault) (quiet x.flight) refl refl)
    (subst Whole (sym f) (ends-whole w c x ((after w.lines).zxid) [] (ended.Cause cause.LinkFault) there refl tt h)) (close-ends w.lines c [] (ended.Cause cause.LinkFault) (quiet x.flight)) (within-close w.lines c (ended.Cause cause.LinkFault))
failure-acts w w' c x Closed e there f h = absurd f

pub cut-acts : (w w' : World) (c : ℕ) → FailureComes c w w' → Whole w → Acts w w' c
cut-acts w w' c (x, there, f) h = failure-acts w w' c x x.actor refl there f (but-of w c h)

was-there : (w : World) (c : ℕ) (y : Conn) → conn_at c (landed c w) ≡ Some y → (x : Conn) × (conn_at c w ≡ Some x)
was-there w c y e = go (conn_at c w) refl
  where
    go : (o : Option Conn) → conn_at c w ≡ o → (x : Conn) × (conn_at c w ≡ Some x)
    go (Some x) f = (x, f)
    go None f = absurd (none_some (sym f ∙ ap (conn_at c) (sym (ap (landed_conn c w) f)) ∙ e))

pub refuse-acts : (w w' : World) (c : ℕ) → FailureComes c (landed c w) w' → Whole w → Acts w w' c
refuse-acts w w' c (y, found, f) h =
    let t = was-there w c y found in
    let is = landed-is w c t.0 t.1 in
    let w1 : World = with_conn w c (record (t.0) { flight = None }) in
    acts-landed w w' c t.0 t.1 (failure-acts w1 w' c y y.actor refl (subst (λ v. conn_at c v ≡ Some y) is found) (subst (λ v. FailureComesTo c v y w' y.actor) is f) (landed-but w c t.0 t.1 h))

-- ---- the answer comes

pub known-at : (w : World) (c : ℕ) (x : Conn) (a : Actor) → Known w → conn_at c w ≡ Some x → x.actor ≡ a → IsKnownAs w.store w.lines c x a
known-at w c x a k there e = subst (IsKnownAs w.store w.lines c x) e (k.used c x there)

-- of an attached connection
served-acts : (w w' : World) (c : ℕ) (i : Input) (hd : Handed c [] w i w') → IsReadyFor w c hd.conn hd.core i → comes_in i ≡ 0 → HasFrames w.lines c hd.conn.frames hd.core → Acts w w' c
served-acts w w' c i hd r none n =
    let opens = (r.but).unshut c hd.conn hd.core hd.found hd.serving in
    handed-acts w w' c [] i ((after w.lines).zxid) hd (steps_end_well hd.core hd.next i w.clock hd.out opens hd.stepped) tt (handed-whole w w' c [] i hd r ((after w.lines).zxid) refl tt)
    (λ going more aside. counts-on w.lines more c hd.conn.frames hd.core hd.next i w.clock hd.out opens hd.stepped n.numbered (omega (arith, n.came, none)) n.most n.lined aside going)
    (λ going. stays-served w w' c [] i hd r going)
    (λ q. within-more w.lines c hd.conn.frames (sends hd.out) n.lined ((r.serves).place, attachment hd.core.who) (r.serves).first (r.serves).packets_were (r.serves).attached (r.serves).welcomed q)

module _ (w w' : World) (c : ℕ) (x : Conn) (core : Core) (a : Answer) (there : conn_at c w ≡ Some x) (actor : x.actor ≡ Connection core) (flight : x.flight ≡ Some (Carried a)) (k : IsAccounted w) (hd : Handed c [] (with_conn w c (record x { flight = None })) (input.Answer a) w') where
  w1 : World
  w1 = with_conn w c (record x { flight = None })

  is-conn : record x { flight = None } ≡ hd.conn
  is-conn = some_is (sym (conn-here w c (record x { flight = None })) ∙ hd.found)

  is-core : core ≡ hd.core
  is-core = core-same core hd.core (sym actor ∙ ap (λ (u : Conn). u.actor) is-conn ∙ hd.serving)

  nothing : hd.conn.flight ≡ None
  nothing = ap (λ (u : Conn). u.flight) (sym is-conn)

  was : HasFrames w.lines c x.frames core × IsInStage w.store w.lines c core x.flight core.stage
  was = known-at w c x (Connection core) k.known there actor

  frames : HasFrames w.lines c hd.conn.frames hd.core
  frames = subst (λ (u : Conn). HasFrames w.lines c u.frames hd.core) is-conn (subst (HasFrames w.lines c x.frames) is-core was.0)

  answered-served : is_served core.stage ≡ true → Acts (with_conn w c (record x { flight = None })) w' c
  answered-served served =
      let serves = (k.whole).serving c x core there actor served in
      served-acts (with_conn w c (record x { flight = None })) w' c (input.Answer a) hd
      (subst (λ (u : Conn). IsReadyFor (with_conn w c (record x { flight = None })) c u hd.core (input.Answer a)) is-conn (subst (λ (q : Core). IsReadyFor (with_conn w c (record x { flight = None })) c (record x { flight = None }) q (input.Answer a)) is-core (record {
        but = landed-but w c x there k.whole;
        nothing_out = refl;
        served = served;
        flight = x.flight;
        serves = serves;
        true_input = subst (IsFlying w.store w.lines c core serves.walker serves.looked) flight serves.flies;
        idle = λ e. absurd (true-false e);
        answers = λ e. ap is_carried flight;
      }))) refl frames

  by-stage : (st : Stage) → core.stage ≡ st → IsInStage w.store w.lines c core x.flight st → Acts (with_conn w c (record x { flight = None })) w' c
  by-stage (Unconnected fresh) e (n, none) = absurd (none_some (sym none ∙ flight))
  by-stage (Connecting y) e n =
      greeted-acts (with_conn w c (record x { flight = None })) w' c a hd y (ap (λ (q : Core). q.stage) (sym is-core) ∙ e)
      (landed-whole w c x there (λ q b s. true-false (sym (sym (ap (λ st. is_served st) e) ∙ ap (λ (u : Core). is_served u.stage) (core-same core q (sym actor ∙ b)) ∙ s))) k.whole)
      nothing frames (subst (λ q. IsConnecting w.store w.lines c q y (Some (Carried a))) is-core (subst (IsConnecting w.store w.lines c core y) flight n))
  by-stage Ready e n = answered-served (ap is_served e)
  by-stage (KeepingAlive f) e n = answered-served (ap is_served e)
  by-stage (Checking f) e n = answered-served (ap is_served e)
  by-stage (Reading xid r v ws) e n = answered-served (ap is_served e)
  by-stage (Committing xid r v p m) e n = answered-served (ap is_served e)
  by-stage (Waiting p) e n = answered-served (ap is_served e)
  by-stage Shut e n = absurd (true-false (sym (ap is_shut e) ∙ (k.whole).unshut c x core there actor))

  pub connection-answered : Acts w w' c
  connection-answered = acts-landed w w' c x there (by-stage core.stage refl was.1)

reaper-answered : (w w' : World) (c : ℕ) (x : Conn) (r : Reap) (a : Answer) → conn_at c w ≡ Some x → x.actor ≡ Reaper r → x.flight ≡ Some (Carried a) → IsAccounted w → Reaps c (with_conn w c (record x { flight = None })) (Some a) w' (record x { flight = None }) r → Acts w w' c
reaper-answered w w' c x r a there actor flight k h =
    let w1 : World = with_conn w c (record x { flight = None }) in
    acts-landed w w' c x there (reaps-acts w1 w' c (record x { flight = None }) r a (conn-here w c (record x { flight = None })) actor refl
    (subst (IsReapFlight w.store r) flight (known-at w c x (Reaper r) k.known there actor))
    (landed-whole w c x there (λ core b s. absurd (reaper-core r core (sym actor ∙ b))) k.whole) h)
  where
    reaper-core : (q : Reap) (core : Core) → Reaper q ≡ Connection core → ⊥
    reaper-core q core e = cc

answer-at : (w w' : World) (c : ℕ) (x : Conn) (a : Answer) (b : Actor) → conn_at c w ≡ Some x → x.actor ≡ b → x.flight ≡ Some (Carried a) → IsAccounted w → AnswerComesTo c (with_conn w c (record x { flight = None })) (record x { flight = None }) a w' b → Acts w w' c
answer-at w w' c x a (Connection core) there actor flight k h = connection-answered w w' c x core a there actor flight k h
answer-at w w' c x a (Reaper r) there actor flight k h = reaper-answered w w' c x r a there actor flight k h
answer-at w w' c x a Closed there actor flight k h = absurd h

pub answer-acts : (w w' : World) (c : ℕ) → Delivers c w w' (flight_at c w) → IsAccounted w → Acts w w' c
answer-acts w w' c d k = go (conn_at c w) refl d
  where
    by-flight : (x : Conn) → conn_at c w ≡ Some x → (f : Option Flight) → x.flight ≡ f → Delivers c w w' f → Acts w w' c
    by-flight x there None e h = absurd h
    by-flight x there (Some (Out b)) e h = absurd h
    by-flight x there (Some Denied) e h = refuse-acts w w' c h k.whole
    by-flight x there (Some (Carried a)) e h =
        let t : AnswerComes c (with_conn w c (record x { flight = None })) a w' = subst (λ v. AnswerComes c v a w') (landed-is w c x there) h in
        let is : t.0 ≡ record x { flight = None } = some_is (sym t.1 ∙ conn-here w c (record x { flight = None })) in
        answer-at w w' c x a x.actor there refl e k (subst (λ (v : Conn). AnswerComesTo c (with_conn w c (record x { flight = None })) v a w' v.actor) is t.2)

    go : (o : Option Conn) → conn_at c w ≡ o → Delivers c w w' (option_and_then (λ (x : Conn). x.flight) o) → Acts w w' c
    go None e h = absurd h
    go (Some x) e h = by-flight x e x.flight refl h

-- ---- an entry

-- it waits for one in these stages alone
awaits-served : (core : Core) (st : Stage) (z : ℤ) → cursor_wanted (wanted_in core st) ≡ Some z → is_served st ≡ true
awaits-served core Ready z h = refl
awaits-served core (Waiting p) z h = refl
awaits-served core (Unconnected f) z h = absurd (none_some h)
awaits-served core (Connecting f) z h = absurd (none_some h)
awaits-served core (KeepingAlive f) z h = absurd (none_some h)
awaits-served core (Checking f) z h = absurd (none_some h)
awaits-served core (Reading xid q v ws) z h = absurd (none_some h)
awaits-served core (Committing xid q v p m) z h = absurd (none_some h)
awaits-served core Shut z h = absurd (none_some h)

record Awaiter (w : World) (c : ℕ) : Type 0 where
  conn : Conn
  core : Core
  there : conn_at c w ≡ Some conn
  actor : conn.actor ≡ Connection core
  served : is_served core.stage ≡ true

awaiter : (w : World) (c : ℕ) (e : Entry) → next_entry c w ≡ Some e → Awaiter w c
awaiter w c e h = by-conn (conn_at c w) refl h
  where
    by-actor : (x : Conn) (a : Actor) → conn_at c w ≡ Some x → x.actor ≡ a → option_and_then (entry_after w.entries) (cursor_of a) ≡ Some e → Awaiter w c
    by-actor x (Reaper r) there f g = absurd (none_some g)
    by-actor x Closed there f g = absurd (none_some g)
    by-actor x (Connection core) there f g = by-cursor (cursor_wanted (wants_of core)) refl g
      where
        by-cursor : (o : Option ℤ) → cursor_wanted (wants_of core) ≡ o → option_and_then (entry_after w.entries) o ≡ Some e → Awaiter w c
        by-cursor None p q = absurd (none_some q)
        by-cursor (Some z) p q = record { conn = x; core = core; there = there; actor = f; served = awaits-served core core.stage z p }

    by-conn : (o : Option Conn) → conn_at c w ≡ o → option_and_then (entry_after w.entries) (option_and_then (λ (x : Conn). cursor_of x.actor) o) ≡ Some e → Awaiter w c
    by-conn None f g = absurd (none_some g)
    by-conn (Some x) f g = by-actor x x.actor f refl g

entry-comes : (w w' : World) (c : ℕ) (i : Input) (e : Entry) → IsEntry e i → comes_in i ≡ 0
entry-comes w w' c (input.Entry s) e h = refl
entry-comes w w' c (input.Frame b) e h = absurd h
entry-comes w w' c (input.Answer b) e h = refl
entry-comes w w' c input.Failed e h = refl
entry-comes w w' c (input.BadLength p n) e h = refl
entry-comes w w' c (input.Lagged p n) e h = refl
entry-comes w w' c input.FeedClosed e h = refl
entry-comes w w' c (input.ClientEnd p) e h = refl

entry-true : (w : World) (c : ℕ) (x : Conn) (core : Core) (e : Entry) (i : Input) → IsEntry e i → IsTrueEntry w.lines core e → IsServingConn w.store w.lines c core x.flight → x.flight ≡ None → But w c → is_served core.stage ≡ true → IsReadyFor w c x core i
entry-true w c x core e (input.Entry s) is t k none b served = record {
  but = b;
  nothing_out = none;
  served = served;
  flight = x.flight;
  serves = k;
  true_input = subst (IsTrueEntry w.lines core) (sym is) t;
  idle = λ f. entry-idle core core.stage t.taken;
  answers = λ f. absurd (cc);
}
entry-true w c x core e (input.Frame b) is t k none q served = absurd is
entry-true w c x core e (input.Answer b) is t k none q served = absurd is
entry-true w c x core e input.Failed is t k none q served = absurd is
entry-true w c x core e (input.BadLength p n) is t k none q served = absurd is
entry-true w c x core e (input.Lagged p n) is t k none q served = absurd is
entry-true w c x core e input.FeedClosed is t k none q served = absurd is
entry-true w c x core e (input.ClientEnd p) is t k none q served = absurd is

pub entry-acts : (w w' : World) (c : ℕ) (o : Option Entry) → next_entry c w ≡ o → EntersBy c w w' o → flight_at c w ≡ None → IsAccounted w → Acts w w' c
entry-acts w w' c None next h none k = absurd h
entry-acts w w' c (Some e) next (i, is, hd) none k =
    let a = awaiter w c e next in
    let same : a.conn ≡ hd.conn = some_is (sym a.there ∙ hd.found) in
    let core_is : a.core ≡ hd.core = core-same a.core hd.core (sym a.actor ∙ ap (λ (u : Conn). u.actor) same ∙ hd.serving) in
    let idle : (a.conn).flight ≡ None = sym (ap (option_and_then (λ (u : Conn). u.flight)) a.there) ∙ none in
    let serves = (k.whole).serving c a.conn a.core a.there a.actor a.served in
    let t = next-true w c a.conn a.core e a.there a.actor serves k.entries next in
    let r = entry-true w c a.conn a.core e i is t serves idle (but-of w c k.whole) a.served in
    let n = known-at w c a.conn (Connection a.core) k.known a.there a.actor in
    served-acts w w' c i hd (subst (λ (u : Conn). IsReadyFor w c u hd.core i) same (subst (λ (q : Core). IsReadyFor w c a.conn q i) core_is r)) (entry-comes w w' c i e is)
    (subst (λ (u : Conn). HasFrames w.lines c u.frames hd.core) same (subst (HasFrames w.lines c (a.conn).frames) core_is n.0))

-- ---- it lags, or the stream ends

pub lag-acts : (w w' : World) (c : ℕ) (o : Option ℤ) → LagsBy c w w' o → Whole w → Acts w w' c
lag-acts w w' c None h k = absurd h
lag-acts w w' c (Some z) hd k = closes-acts w w' c _ _ refl hd (but-of w c k)

pub end-acts : (w w' : World) (c : ℕ) (o : Option Conn) → EndsBy c w w' o → Whole w → Acts w w' c
end-acts w w' c None h k = absurd h
end-acts w w' c (Some x) hd k = closes-acts w w' c _ _ refl hd (but-of w c k)

-- ---- its proxy restarts

stopped-accounted : (p : ℕ) (w : World) (es : List (ℕ × Conn)) → Distinct es → Gives (λ k. conn_at k w) es → IsAccounted w → IsAccounted (fold (stopped p) w es)
stopped-accounted p w [] d g h = h
stopped-accounted p w (e ∷ es) d g h = go (is_open_at p e.1) (λ v. stopped-accounted p v es d.1)
  where
    go : (b : Bool) → ((v : World) → Gives (λ k. conn_at k v) es → IsAccounted v → IsAccounted (fold (stopped p) v es)) → IsAccounted (fold (stopped p) (if b then leaves e.0 w e.1 Closed (ended_by e.0 cause.Restart e.1.flight) else w) es)
    go false later = later w g.1 h
    go true later =
        let v : World = leaves e.0 w e.1 Closed (ended_by e.0 cause.Restart e.1.flight) in
        later v (gives-others w e.0 e.1 es d.0 g.1)
        (acts-accounted w v e.0 h (leaves-acts w v e.0 e.1 Closed (ended_by e.0 cause.Restart e.1.flight) g.0 refl (ends-own e.0 [] (ended.Cause cause.Restart) (quiet e.1.flight) refl refl)
        (ends-whole w e.0 e.1 ((after w.lines).zxid) [] (ended.Cause cause.Restart) g.0 refl tt (but-of w e.0 h.whole)) (close-ends w.lines e.0 [] (ended.Cause cause.Restart) (quiet e.1.flight)) (within-close w.lines e.0 (ended.Cause cause.Restart))))

pub restart-accounted : (w : World) (p : ℕ) → IsAccounted w → IsAccounted (restarted p w)
restart-accounted w p h =
    let d = sorted-distinct (entries w.conns) (is-true (is_sorted nat_cmp (entries w.conns)) (entries_sorted w.conns)) in
    stopped-accounted p w (entries w.conns) d (gives-as (λ k. find nat_cmp k (entries w.conns)) (λ k. conn_at k w) (entries w.conns) (λ k. get-entries w.conns k) (all-found (entries w.conns) d)) h
