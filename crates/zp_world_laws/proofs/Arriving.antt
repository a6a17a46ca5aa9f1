-- Bytes of a client arrive: each frame is shown, and handed to its connection, which takes it up, puts it after those that wait, or
-- ends. A length out of range ends it.
use Rattle.zp_laws.proofs.Steps.{frames-push, knows-still}
use Rattle.zp_world_laws.proofs.Closing.{shown-but, AreShown, IsShownFrame, but-of, shown-plain, with_line}
use Rattle.ev_types.specs.Store.{Store, present}
use Rattle.ev_types.specs.declared.answer.Answer.TheVariants as answer
use Rattle.ev_types.specs.declared.answer.Answer.{Answer}
use Rattle.std.proofs.Common.{Bool, List, [], ap, append-nil, false, inl, inr, length, refl, subst, sym, true, ℕ, ℤ, ◌++◌, ◌+◌, ◌∙◌, ◌∷◌, ◌≡◌, ◌≤◌}
use Rattle.std.proofs.lemmas.List.Elements.{All-head, All-tail}
use Rattle.std.specs.Prelude.{All, MatchBool, None, Option, Some, if◌then◌else◌}
use Rattle.zk_jute.specs.Requests.{read_request}
use Rattle.zk_model.specs.Limits.{max_frame}
use Rattle.zk_transcript.specs.History.{after}
use Rattle.zk_transcript.specs.Walks.{Walker}
use Rattle.zk_service.specs.Answers.{has_header}
use Rattle.zk_service.specs.declared.cause.Cause.TheVariants as cause
use Rattle.zk_service.specs.declared.cause.Cause.{Cause}
use Rattle.zk_transcript.specs.declared.transcript.TranscriptLine.TheVariants.{Frame as FrameLine}
use Rattle.zk_transcript.specs.declared.transcript.TranscriptLine.{TranscriptLine}
use Rattle.zp_script.specs.Arriving.{frame_lines, shown_frame}
use Rattle.zp_script.specs.Handing.{Handed}
use Rattle.zp_script.specs.Kinds.{kind_asked}
use Rattle.zp_step.specs.Kinds.{kind_in_stage}
use Rattle.zp_script.specs.StepOutcomes.{acts_all, leaves, quiet}
use Rattle.zp_script.specs.Worlds.{Closed, Conn, Connection, World, after_step, conn_at, is_closed_actor, with_conn, zxid_at}
use Rattle.zp_script.specs.declared.flight.Asking.{Asking}
use Rattle.zp_script.specs.declared.flight.Flight.TheVariants.{Carried, Denied, Out}
use Rattle.zp_script.specs.declared.flight.Flight.{Flight}
use Rattle.zp_laws.proofs.Going.{still-matches}
use Rattle.zp_laws.specs.Frames.{IsFrameAt}
use Rattle.zp_step.specs.Stages.{is_served, next_frame, waits_from, Checking, Committing, Connecting, Core, KeepingAlive, Reading, Ready, Shut, Stage, Unconnected, Waiting, counted_up, is_shut}
use Rattle.zp_laws.specs.Inputs.{IsOwn}
use Rattle.zp_step.proofs.Shutting.{goes-still, steps-open}
use Rattle.zp_step.specs.Replies.{Is, closed_by}
use Rattle.zp_step.specs.Steps.{Comes, Goes, Steps, queued}
use Rattle.zp_step.specs.declared.action.Action.TheVariants as action
use Rattle.zp_step.specs.declared.action.Action.{Action}
use Rattle.zp_step.specs.declared.input.Input.TheVariants as input
use Rattle.zp_world_laws.proofs.Commits.{head-at, stands-now}
use Rattle.zp_world_laws.proofs.Ends.{closing-whole}
use Rattle.zp_world_laws.proofs.Executing.{precedes-self}
use Rattle.zp_world_laws.proofs.Handing.{core-same}
use Rattle.zp_world_laws.proofs.Kept.{closed-same}
use Rattle.zp_world_laws.proofs.Lines.{same-air, silent-holds}
use Rattle.zp_world_laws.proofs.Numbers.{conn-here, conn-there, either-number}
use Rattle.zp_world_laws.proofs.Serving.{elsewhere-plain, serving-push}
use Rattle.zp_world_laws.proofs.Setting.{sets-whole}
use Rattle.zp_world_laws.specs.Connections.{IsClosedAt, IsFlying, IsServingConn, Whole}
use Rattle.zp_world_laws.specs.Holding.{Left, Of, Source, air, out_in, out_of}
use Rattle.zx_base.proofs.Options.{some_is}

-- ---- a connection with another stream, or another count of its frames

module _ (w : World) (c : ℕ) (x v : Conn) (there : conn_at c w ≡ Some x) (actor : v.actor ≡ x.actor) (flight : v.flight ≡ x.flight) where
  record WasFound (d : ℕ) (y : Conn) : Type 0 where
    was : Conn
    at : conn_at d w ≡ Some was
    same_actor : was.actor ≡ y.actor
    same_flight : was.flight ≡ y.flight

  was-found : (d : ℕ) (y : Conn) → conn_at d (with_conn w c v) ≡ Some y → WasFound d y
  was-found d y e = elim (either-number d c) [
    | inl same ↦
        let is : v ≡ y = some_is (sym (conn-here w c v) ∙ ap (λ n. conn_at n (with_conn w c v)) (sym same) ∙ e) in
        record { was = x; at = ap (λ n. conn_at n w) same ∙ there; same_actor = sym actor ∙ ap (λ (q : Conn). q.actor) is; same_flight = sym flight ∙ ap (λ (q : Conn). q.flight) is }
    | inr apart ↦ record { was = y; at = sym (conn-there w c d v apart) ∙ e; same_actor = refl; same_flight = refl }
  ]

  as-before : (o : Source) (z : Asking) → air (with_conn w c v) o ≡ Some z → air w o ≡ Some z
  as-before (Left k) z e = e
  as-before (Of d) z e = elim (either-number d c) [
    | inl same ↦ ap (λ n. out_of (conn_at n w)) same ∙ ap out_of there ∙ ap out_in (sym flight) ∙ ap out_of (sym (conn-here w c v)) ∙ ap (λ n. out_of (conn_at n (with_conn w c v))) (sym same) ∙ e
    | inr apart ↦ ap out_of (sym (conn-there w c d v apart)) ∙ e
  ]

  still-closed : (d : ℕ) → IsClosedAt w d → IsClosedAt (with_conn w c v) d
  still-closed d t = elim (either-number d c) [
    | inl same ↦ (v, ap (λ n. conn_at n (with_conn w c v)) same ∙ conn-here w c v, ap is_closed_actor actor ∙ ap (λ (y : Conn). is_closed_actor y.actor) (some_is (sym there ∙ ap (λ n. conn_at n w) (sym same) ∙ t.1)) ∙ t.2)
    | inr apart ↦ closed-same w (with_conn w c v) d (conn-there w c d v apart) t
  ]

  pub alike-whole : Whole w → Whole (with_conn w c v)
  alike-whole h = record {
    holds = silent-holds w (with_conn w c v) (precedes-self w.store) (h.holds).serves refl (same-air w (with_conn w c v) as-before) h.holds;
    serving = λ d y core e a s. (let f = was-found d y e in subst (IsServingConn w.store w.lines d core) f.same_flight (h.serving d f.was core f.at (f.same_actor ∙ a) s));
    unshut = λ d y core e a. (let f = was-found d y e in h.unshut d f.was core f.at (f.same_actor ∙ a));
    own = λ e d y a p q r. (let f = was-found e y p in h.own e d f.was a f.at (f.same_flight ∙ q) r);
    left = λ k d a e r. still-closed d (h.left k d a e r);
    small = h.small;
  }

-- ---- the line of a frame

pub frame-shown : (c i : ℕ) (z : ℤ) (bytes : List ℕ) → length bytes ≤ max_frame → IsShownFrame c z (FrameLine c i z bytes)
frame-shown c i z bytes small = record { index = i; bytes = bytes; is = refl; small = small }

pub line-whole : (w : World) (c : ℕ) (z : ℤ) (l : TranscriptLine) → z ≡ (after w.lines).zxid → IsShownFrame c z l → Whole w → Whole (with_line w l)
line-whole w c z l last f h =
    let b = shown-but w c c z l last f (but-of w c h) in
    record {
      holds = b.holds;
      serving = λ d x core e a s. serving-push w.store w.store w.lines (l ∷ []) d core x.flight ((h.holds).serves).legal ((b.holds).serves).legal (precedes-self w.store) (elsewhere-plain w.lines d l (shown-plain c z l f)) (h.serving d x core e a s);
      unshut = b.unshut;
      own = b.own;
      left = b.left;
      small = b.small;
    }

-- the zxid that a frame shows is that of the last update
pub zxid-shown : (w : World) → Whole w → zxid_at w.store ≡ (after w.lines).zxid
zxid-shown w h = head-at (present w.store) (after w.lines) (stands-now w.store w.lines (h.holds).serves)

pub shown-whole : (w : World) (c : ℕ) (x : Conn) (frame : List ℕ) → conn_at c w ≡ Some x → length frame ≤ max_frame → Whole w → Whole (shown_frame c w x frame)
shown-whole w c x frame there small h =
    let v : Conn = record x { frames = counted_up (x.frames + 1) } in
    let w1 : World = with_conn w c v in
    line-whole w1 c (zxid_at w.store) (FrameLine c x.frames (zxid_at w.store) frame) (zxid-shown w h) (frame-shown c x.frames (zxid_at w.store) frame small) (alike-whole w c x v there refl refl h)

pub lines-shown : (c i : ℕ) (z : ℤ) (fs : List (List ℕ)) → All (λ f. length f ≤ max_frame) fs → AreShown c z (frame_lines c i z fs)
lines-shown c i z [] small = tt
lines-shown c i z (f ∷ fs) small = (frame-shown c i z f (All-head (λ g. length g ≤ max_frame) f fs small), lines-shown c (counted_up (i + 1)) z fs (All-tail (λ g. length g ≤ max_frame) f fs small))

-- ---- a connection that is at work takes no frame up

abbrev pub is_busy : Stage → Bool
is_busy (Connecting connect) = true
is_busy (KeepingAlive frame) = true
is_busy (Checking frame) = true
is_busy (Reading xid r v ws) = true
is_busy (Committing xid r v p time) = true
is_busy _ = false

pub data Arrived (c c' : Core) (bytes : List ℕ) (out : List Action) : Type 0 where
  Queues : (is : c' ≡ queued c bytes) (silent : out ≡ []) (header : has_header (read_request bytes) ≡ true) → Arrived c c' bytes out
  Shuts : (shut : is_shut c'.stage ≡ true) (why : Cause) (closed : out ≡ action.Close why ∷ []) → Arrived c c' bytes out

busy-open : (st : Stage) → is_busy st ≡ true → is_shut st ≡ false
busy-open (Connecting connect) h = refl
busy-open (KeepingAlive frame) h = refl
busy-open (Checking frame) h = refl
busy-open (Reading xid r v ws) h = refl
busy-open (Committing xid r v p time) h = refl
busy-open _ h = absurd (cc)

busy-ready : (st : Stage) → is_busy st ≡ true → st ≡ Ready → ⊥
busy-ready st h e = let f : false ≡ true = sym (ap is_busy e) ∙ h in cc

module _ (c c' : Core) (bytes : List ℕ) (now : ℕ) where
  comes-in : (st : Stage) (mid : Core) (first : List Action) → is_busy st ≡ true → Comes c bytes now mid first st → MatchBool (has_header (read_request bytes)) (Is (queued c bytes, []) mid first) (Is (closed_by c (cause.NoHeader c.taken)) mid first)
  comes-in (Connecting connect) mid first h k = k
  comes-in (KeepingAlive frame) mid first h k = k
  comes-in (Checking frame) mid first h k = k
  comes-in (Reading xid r v ws) mid first h k = k
  comes-in (Committing xid r v p time) mid first h k = k
  comes-in (Unconnected fresh) mid first h k = absurd (cc)
  comes-in Ready mid first h k = absurd (cc)
  comes-in (Waiting p) mid first h k = absurd (cc)
  comes-in Shut mid first h k = absurd (cc)

  settled : is_busy c.stage ≡ true → (mid : Core) (first later : List Action) (b : Bool) → has_header (read_request bytes) ≡ b → MatchBool b (Is (queued c bytes, []) mid first) (Is (closed_by c (cause.NoHeader c.taken)) mid first) → Goes now mid c' later → Arrived c c' bytes (first ++ later)
  settled busy mid first later true e i g =
      let s = goes-still now mid c' later (λ r. busy-ready c.stage busy (sym (ap (λ (d : Core). d.stage) i.0) ∙ r)) g in
      Queues (s.0 ∙ i.0) (ap (λ l. l ++ later) i.1 ∙ s.1) e
  settled busy mid first later false e i g =
      let s = goes-still now mid c' later (λ r. (let f : Shut ≡ Ready = sym (ap (λ (d : Core). d.stage) i.0) ∙ r in absurd (cc))) g in
      Shuts (ap (λ (d : Core). is_shut d.stage) (s.0 ∙ i.0)) (cause.NoHeader c.taken) (ap (λ l. l ++ later) i.1 ∙ ap (λ l. action.Close (cause.NoHeader c.taken) ∷ l) s.1)

  pub arrived : (out : List Action) → is_busy c.stage ≡ true → Steps c (input.Frame bytes) now c' out → Arrived c c' bytes out
  arrived out busy h =
      let s = steps-open c c' (input.Frame bytes) now out (busy-open c.stage busy) h in
      subst (Arrived c c' bytes) (sym s.joined) (settled busy s.mid s.first s.later (has_header (read_request bytes)) refl (comes-in c.stage s.mid s.first busy s.handled) s.goes)

-- ---- it waits after the others

module _ (s : Store) (lines : List TranscriptLine) (c : ℕ) (core : Core) (bytes : List ℕ) where
  own-queued : (w : Walker) (before : Store) (looked : ℕ) (st : Stage) (a : Answer) → IsOwn lines c core w before looked st a → IsOwn lines c (queued core bytes) w before looked st a
  own-queued w before looked (Committing xid q v p m) (answer.Txn r true parts) o = record { place = o.place; update = o.update; line = o.line; there = o.there; right = o.right; zxid = o.zxid; kind = o.kind; stood = o.stood; planned = o.planned; asked = o.asked }
  own-queued w before looked (Committing xid q v p m) (answer.Txn r false parts) o = o
  own-queued w before looked (Committing xid q v p m) (answer.Range r x) o = o
  own-queued w before looked (Committing xid q v p m) (answer.Granted r x y) o = o
  own-queued w before looked (Committing xid q v p m) (answer.Alive r x y) o = o
  own-queued w before looked Ready a o = o
  own-queued w before looked (Unconnected f) a o = o
  own-queued w before looked (Connecting ph) a o = o
  own-queued w before looked (KeepingAlive f) a o = o
  own-queued w before looked (Checking f) a o = o
  own-queued w before looked (Reading xid q v ws) a o = o
  own-queued w before looked (Waiting p) a o = o
  own-queued w before looked Shut a o = o

  kind-queued : (st : Stage) → kind_in_stage c (queued core bytes) st ≡ kind_in_stage c core st
  kind-queued (Connecting x) = refl
  kind-queued (Committing xid r v p m) = refl
  kind-queued (Unconnected f) = refl
  kind-queued Ready = refl
  kind-queued (KeepingAlive f) = refl
  kind-queued (Checking f) = refl
  kind-queued (Reading xid q v ws) = refl
  kind-queued (Waiting p) = refl
  kind-queued Shut = refl

  flies-queued : (w : Walker) (looked : ℕ) (f : Option Flight) → IsFlying s lines c core w looked f → IsFlying s lines c (queued core bytes) w looked f
  flies-queued w looked None h = h
  flies-queued w looked (Some (Out x)) h = record { asked = h.asked; kind = h.kind ∙ sym (kind-queued core.stage); ahead = h.ahead }
  flies-queued w looked (Some (Carried a)) h = record {
    asked = h.asked;
    out = h.out;
    before = h.before;
    then_store = h.then_store;
    carried_out = h.carried_out;
    begun = h.begun;
    was = h.was;
    is = h.is;
    earlier = h.earlier;
    shown = h.shown;
    own = own-queued w h.before looked core.stage a h.own;
  }
  flies-queued w looked (Some Denied) h = h

  pub serving-queued : (f : Option Flight) → IsFrameAt lines c (next_frame core) bytes → IsServingConn s lines c core f → IsServingConn s lines c (queued core bytes) f
  serving-queued f came k = record {
    place = k.place;
    attached = k.attached;
    least = k.least;
    most = k.most;
    rises = k.rises;
    walker = k.walker;
    talks = k.talks;
    looked = k.looked;
    stands = record {
      matches = still-matches lines core (queued core bytes) k.walker (k.stands).matches refl refl refl refl;
      work = (k.stands).work;
      waiting = frames-push lines c (waits_from core.stage core.next) core.waiting bytes (k.stands).waiting came;
      turn = (k.stands).turn;
      views = (k.stands).views;
      knows = knows-still s lines c core core k.walker k.looked bytes [] k.stands (record { place = came.place; framed = came.framed; small = came.small }) core.stage (k.stands).knows;
    };
    flies = flies-queued k.walker k.looked f k.flies;
    fresh = k.fresh;
    first = k.first;
    packets_were = k.packets_were;
    welcomed = k.welcomed;
  }

-- whatever is out of it stays out
pub queued-whole : (w : World) (c : ℕ) (x : Conn) (core : Core) (bytes : List ℕ) → conn_at c w ≡ Some x → x.actor ≡ Connection core → (is_served core.stage ≡ true → IsFrameAt w.lines c (next_frame core) bytes) → Whole w → Whole (with_conn w c (record x { actor = Connection (queued core bytes) }))
queued-whole w c x core bytes there actor came h = sets-whole w c x (record x { actor = Connection (queued core bytes) }) (record {
  but = but-of w c h;
  there = there;
  opens = ap is_closed_actor actor;
  unshut = λ k a. ap (λ (q : Core). is_shut q.stage) (sym (core-same (queued core bytes) k a)) ∙ h.unshut c x core there actor;
  serves = λ k a s. subst (λ q. IsServingConn w.store w.lines c q x.flight) (core-same (queued core bytes) k a) (queued-serves (ap (λ (q : Core). is_served q.stage) (core-same (queued core bytes) k a) ∙ s));
  bound = λ a e. (h.holds).bound (Of c) a (in-air a e);
  own = λ a d e r. h.own c d x a there e r;
  heard = λ k a e. (let sp = (h.holds).spoken c k a e in record {
    walker = sp.walker;
    talks = sp.talks;
    ahead = λ z i f r. sp.ahead (Of c) z i (in-air z f) r;
  });
})
  where
    queued-serves : is_served core.stage ≡ true → IsServingConn w.store w.lines c (queued core bytes) x.flight
    queued-serves s = serving-queued w.store w.lines c core bytes x.flight (came s) (h.serving c x core there actor s)

    in-air : (a : Asking) → x.flight ≡ Some (Out a) → air w (Of c) ≡ Some a
    in-air a e = ap out_of there ∙ ap out_in e

-- a connection that is at work: the frame waits, or has no header and ends it
pub busy-whole : (w w' : World) (c : ℕ) (rest : List TranscriptLine) (z : ℤ) (bytes : List ℕ) (hd : Handed c rest w (input.Frame bytes) w') → is_busy hd.core.stage ≡ true → z ≡ (after w.lines).zxid → AreShown c z rest
    → (is_served hd.core.stage ≡ true → has_header (read_request bytes) ≡ true → IsFrameAt w.lines c (next_frame hd.core) bytes) → Whole w → Whole w'
busy-whole w w' c rest z bytes hd busy last shown came h = go (arrived hd.core hd.next bytes w.clock hd.out busy hd.stepped)
  where
    go : Arrived hd.core hd.next bytes hd.out → Whole w'
    go (Shuts shut why closed) = closing-whole w w' c rest (input.Frame bytes) why z hd shut closed last shown (but-of w c h)
    go (Queues is silent header) =
        let v : Conn = record (hd.conn) { actor = Connection (queued hd.core bytes) } in
        let opens : is_shut hd.core.stage ≡ false = busy-open hd.core.stage busy in
        let e : w' ≡ with_conn w c v =
        hd.result ∙ ap (λ l. leaves c w hd.conn (after_step hd.next) (acts_all c (kind_asked c (Connection hd.next)) rest hd.conn.flight l)) silent
        ∙ ap (λ (d : Core). leaves c w hd.conn (after_step d) (quiet hd.conn.flight)) is
        ∙ ap (λ b. leaves c w hd.conn (if b then Closed else Connection (queued hd.core bytes)) (quiet hd.conn.flight)) opens
        ∙ ap (λ l. record (with_conn w c v) { lines = l; strays = w.strays ++ [] }) (append-nil w.lines)
        ∙ ap (λ l. record (with_conn w c v) { strays = l }) (append-nil w.strays) in
        subst Whole (sym e) (queued-whole w c hd.conn hd.core bytes hd.found hd.serving (λ s. came s header) h)
