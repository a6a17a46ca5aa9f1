-- An open connection with a session stays open at each line that does not end it, while the store has room.
use Rattle.ev_types.specs.Store.{last_revision, revision}
use Rattle.ev_types.specs.declared.answer.ActAns.{ActAns}
use Rattle.ev_types.specs.declared.answer.Answer.{Answer}
use Rattle.ev_types.specs.declared.answer.Answer.TheVariants as answer
use Rattle.std.proofs.Common.{Bool, List, [], ap, arith, false, inl, inr, length, refl, subst, sym, true, ℕ, ℤ, zero, suc, ◌++◌, ◌+◌, ◌∙◌, ◌∷◌, ◌≡◌, ◌≤◌}
use Rattle.std.proofs.lemmas.Bool.Decides.{nat_tests}
use Rattle.std.proofs.lemmas.Int.{ints}
use Rattle.std.specs.Prelude.{MatchBool, None, Option, Some, if◌then◌else◌, not, option_and_then, slice_get, ◌<ℤ◌, ◌≤ℤ◌, ◌⊎◌}
use Rattle.zk_jute.specs.Frames.{bad_length}
use Rattle.zk_jute.specs.Requests.{read_request}
use Rattle.zk_transcript.proofs.Attachments.{NoneAfter, attach_of-push}
use Rattle.zk_transcript.proofs.Lookups.{slice_get-back}
use Rattle.zk_transcript.specs.Legal.{Attachment, attach_of, is_legal}
use Rattle.zk_service.specs.Answers.{has_header}
use Rattle.zk_service.specs.declared.cause.Cause.TheVariants as cause
use Rattle.zk_service.specs.declared.cause.Cause.{Cause}
use Rattle.zk_transcript.specs.declared.transcript.TranscriptLine.TheVariants.{Frame as FrameLine}
use Rattle.zk_transcript.specs.declared.transcript.TranscriptLine.{TranscriptLine}
use Rattle.zn_layout.specs.declared.entry.Entry.{Entry}
use Rattle.zs_session.specs.Connecting.{ConnectAnswers, ConnectEnds, IsFaultOfConnect, attached as attached_step, timeout_in}
use Rattle.zs_session.specs.declared.connect.Connect.{Connect}
use Rattle.zs_session.specs.declared.connect.ConnectStep.{ConnectStep}
use Rattle.zs_session.specs.declared.connect.Phase.TheVariants.{Attaching, Creating, Granting, Keeping, Looking, LookingAgain, Over, Unasked}
use Rattle.zs_session.specs.declared.connect.Phase.{Phase}
use Rattle.zs_session.specs.declared.fault.StepFault.TheVariants as faults
use Rattle.zt_text.specs.declared.script.Happening.{Happening}
use Rattle.zx_base.proofs.Options.{none_some, some_is}
use Rattle.zp_step.specs.Stages.{is_served, waits_from, Core, Stage, Unconnected, Connecting, Ready, KeepingAlive, Checking, Reading, Committing, Waiting, Shut, counted_up, is_shut, wanted_in}
use Rattle.zp_step.proofs.Shutting.{ends-named, goes-still, shut-for-good, steps-open}
use Rattle.zp_step.specs.Connects.{Connects, connected}
use Rattle.zp_step.specs.Laws.{end_by}
use Rattle.zp_step.specs.Replies.{Is, closed_by}
use Rattle.zp_step.specs.Steps.{Answers, Comes, Steps as CoreSteps, StepsOpen, queued}
use Rattle.zp_step.specs.declared.action.Action.{Action}
use Rattle.zp_step.specs.declared.input.Input.TheVariants as input
use Rattle.zp_step.specs.declared.input.Input.{Input}
use Rattle.zp_script.specs.Arriving.{Arrives, EndsBadly, FramesArrive, frame_lines, shown_frame}
use Rattle.zp_script.specs.Carrying.{Executes}
use Rattle.zp_script.specs.Effects.{Delivers, Does, EntersBy}
use Rattle.zp_script.specs.Entries.{cursor_of, cursor_wanted, entry_after, next_entry}
use Rattle.zp_script.specs.Faults.{flight_at}
use Rattle.zp_script.specs.Handing.{AnswerComes, AnswerComesTo, Handed, landed}
use Rattle.zp_script.specs.Happens.{Settles, settling}
use Rattle.zp_script.specs.Kinds.{kind_asked}
use Rattle.zp_script.specs.StepOutcomes.{acts_all}
use Rattle.zp_script.specs.Worlds.{Closed, Conn, Connection, World, after_step, conn_at, is_closed_actor, is_open_conn, with_conn, zxid_at}
use Rattle.zp_script.specs.declared.flight.Asking.{Asking}
use Rattle.zp_script.specs.declared.flight.Flight.TheVariants.{Carried, Denied, Out}
use Rattle.zp_script.specs.declared.flight.Flight.{Flight}
use Rattle.zp_world_laws.proofs.Arrivals.{core-of}
use Rattle.zp_world_laws.proofs.Ends.{landed-is}
use Rattle.zp_world_laws.proofs.Handing.{core-same}
use Rattle.zp_world_laws.proofs.Numbers.{conn-here}
use Rattle.zp_world_laws.proofs.Running.{Settling, SettlesOn, answers, carries, enters, settling-is}
use Rattle.zp_world_laws.specs.Bounds.{attachment}
use Rattle.zp_world_laws.specs.Connecting.{HasOwnLine, IsConnectFlight, IsConnecting, IsInStage}
use Rattle.zp_world_laws.specs.Connections.{IsServingConn}
use Rattle.zp_world_laws.specs.Counting.{HasFrames}
use Rattle.zp_settle_laws.proofs.Arriving.{one-stays}
use Rattle.zp_settle_laws.proofs.Begun.{serving-lasts, waiting-lasting, waits-least}
use Rattle.zp_settle_laws.proofs.Onward.{Grows, badly-onward, frames-onward, grows-then, handed-onward, settles-onward, settling-onward}
use Rattle.zp_settle_laws.proofs.Open.{answer-stays, lasting-open, lasting-served, taken-stays}
use Rattle.zp_settle_laws.proofs.Roomy.{IsKept, settling-kept}
use Rattle.zp_settle_laws.proofs.Sessions.{get-front, here-now, mild-front}
use Rattle.zp_settle_laws.proofs.Staying.{goes-lasting}
use Rattle.zp_settle_laws.specs.Staying.{AreLasting, IsLasting, IsLastingIn, StaysOpen, closes_after}
use Rattle.zp_settle_laws.specs.Undisturbed.{HasMildFrames, takes_session}
use Rattle.zx_base.proofs.Booleans.{true-not_false as true-false}

-- it is open, at this proxy
pub record IsOpenAt (c p : ℕ) (w : World) : Type 0 where
  pub conn : Conn
  pub core : Core
  pub there : conn_at c w ≡ Some conn
  pub actor : conn.actor ≡ Connection core
  pub proxy : conn.proxy ≡ p

-- it has ended, and what came of its bytes begins with this length out of range
pub record IsEndedBadly (c : ℕ) (n : ℤ) (w : World) : Type 0 where
  pub conn : Conn
  pub there : conn_at c w ≡ Some conn
  pub closed : conn.actor ≡ Closed
  pub bad : bad_length conn.stream.rest ≡ Some n

-- the answer that attached it is still to be delivered
pub record IsGreeted (c : ℕ) (w : World) : Type 0 where
  pub conn : Conn
  pub core : Core
  pub connect : Connect
  pub there : conn_at c w ≡ Some conn
  pub actor : conn.actor ≡ Connection core
  pub stage : core.stage ≡ Connecting connect
  pub answer : Answer
  pub flight : conn.flight ≡ Some (Carried answer)
  pub known : IsConnecting w.store w.lines c core connect (Some (Carried answer))

-- ---- a connect that is attached is welcomed

-- it is ready then, and what waited waits
pub record IsReady (core mid : Core) : Type 0 where
  pub stage : mid.stage ≡ Ready
  pub waiting : mid.waiting ≡ core.waiting

module _ (lines : List TranscriptLine) (c : ℕ) (core mid : Core) (x : Connect) (now : ℕ) (first : List Action) (place : ℕ × Attachment) (attached : attach_of c lines ≡ Some place) where
  welcomed : (new : Connect) (step : ConnectStep) (r id timeout : ℤ) (passwd : List ℕ) (parts : List ActAns) → ConnectEnds (attached_step x.request id timeout passwd r parts) new.phase step → Is (connected core now new step) mid first → IsReady core mid
  welcomed new step r id timeout passwd parts (over, is) i = record {
    stage = ap (λ (d : Core). d.stage) i.0 ∙ ap (λ st. (connected core now new st).0.stage) is;
    waiting = ap (λ (d : Core). d.waiting) i.0 ∙ ap (λ st. (connected core now new st).0.waiting) is;
  }

  no-line : attach_of c lines ≡ None → IsReady core mid
  no-line none = absurd (none_some (sym none ∙ attached))

  greets : (ph : Phase) (a : Answer) → x.phase ≡ ph → HasOwnLine lines c x ph a → Connects core x (Some a) now mid first → IsReady core mid
  greets Creating (answer.Txn r true parts) e own (inl f) = absurd (subst (λ q. IsFaultOfConnect x q (answer.Txn r true parts) (faults.Damaged f.key f.value)) e f.found)
  greets Creating (answer.Txn r true parts) e own (inr s) = welcomed s.new s.step r x.fresh.id (timeout_in x) x.fresh.passwd parts (subst (λ q. ConnectAnswers x q (answer.Txn r true parts) s.new.phase s.step) e (s.steps).moves) s.is
  greets Creating (answer.Txn r false parts) e own h = no-line own
  greets Creating (answer.Range r q) e own h = no-line own
  greets Creating (answer.Granted r q t) e own h = no-line own
  greets Creating (answer.Alive r q t) e own h = no-line own
  greets (Attaching seen life) (answer.Txn r true parts) e own (inl f) = absurd (subst (λ q. IsFaultOfConnect x q (answer.Txn r true parts) (faults.Damaged f.key f.value)) e f.found)
  greets (Attaching seen life) (answer.Txn r true parts) e own (inr s) = welcomed s.new s.step r x.request.session life.timeout life.passwd parts (subst (λ q. ConnectAnswers x q (answer.Txn r true parts) s.new.phase s.step) e (s.steps).moves) s.is
  greets (Attaching seen life) (answer.Txn r false parts) e own h = no-line own
  greets (Attaching seen life) (answer.Range r q) e own h = no-line own
  greets (Attaching seen life) (answer.Granted r q t) e own h = no-line own
  greets (Attaching seen life) (answer.Alive r q t) e own h = no-line own
  greets Unasked a e own h = no-line own
  greets Looking a e own h = no-line own
  greets Granting a e own h = no-line own
  greets (Keeping seen life) a e own h = no-line own
  greets LookingAgain a e own h = no-line own
  greets Over a e own h = no-line own

-- ---- a frame waits for the connect's answer

queue-waits : (c c' : Core) (x : Connect) (f : List ℕ) (now : ℕ) (out : List Action) → c.stage ≡ Connecting x → has_header (read_request f) ≡ true → CoreSteps c (input.Frame f) now c' out → c'.stage ≡ Connecting x
queue-waits c c' x f now out e header h =
    let s = steps-open c c' (input.Frame f) now out (ap is_shut e) h in
    let mid : s.mid.stage ≡ Connecting x = go (has_header (read_request f)) header s.mid s.first (subst (Comes c f now s.mid s.first) e s.handled) in
    ap (λ (d : Core). d.stage) (goes-still now s.mid c' s.later (λ r. unready (sym mid ∙ r)) s.goes).0 ∙ mid
  where
    unready : Connecting x ≡ Ready → ⊥
    unready g = cc

    go : (b : Bool) → b ≡ true → (mid : Core) (first : List Action) → MatchBool b (Is (queued c f, []) mid first) (Is (closed_by c (cause.NoHeader c.taken)) mid first) → mid.stage ≡ Connecting x
    go true g mid first i = ap (λ (d : Core). d.stage) i.0 ∙ e
    go false g mid first i = absurd (true-false (sym g))

-- what ends a connection closes it; what was shut is closed too
shut-closed : (c c' : Core) (i : Input) (why : Cause) (now : ℕ) (out : List Action) → end_by i ≡ Some why → CoreSteps c i now c' out → after_step c' ≡ Closed
shut-closed c c' i why now out e h = go (is_shut c.stage) refl
  where
    go : (b : Bool) → is_shut c.stage ≡ b → after_step c' ≡ Closed
    go true f = ap (λ b. if b then Closed else Connection c') (ap (λ (d : Core). is_shut d.stage) (shut-for-good c c' i now out f h).0 ∙ f)
    go false f = ap (λ b. if b then Closed else Connection c') (ap is_shut (ends-named c c' i why now out f e h).0)

-- ---- in a world of a run that leads to another one

-- frames arrive at a connection that is open: its session lives, or its welcome is to come
pub data Takes (c : ℕ) (w : World) (x : Conn) : Type 0 where
  stays : (s : StaysOpen c w) → Takes c w x
  waits : (core : Core) (y : Connect) (actor : x.actor ≡ Connection core) (stage : core.stage ≡ Connecting y) → Takes c w x

pub record IsTaking (c : ℕ) (w : World) (x : Conn) : Type 0 where
  pub there : conn_at c w ≡ Some x
  pub takes : Takes c w x
  pub least : 1 ≤ x.frames

-- it is the same but for its core and what is out
pub record IsAs (x y : Conn) : Type 0 where
  pub rest : y.stream.rest ≡ x.stream.rest
  pub proxy : y.proxy ≡ x.proxy

module _ (c p : ℕ) (place : ℕ) (own : Attachment) (last : World) (kept : NoneAfter (takes_session own.session) place last.lines) (mild : HasMildFrames c last.lines) (room : revision last.store <ℤ last_revision) where
  -- ---- what is known of it then

  module _ (w : World) (g : Grows w last) where
    mild-here : HasMildFrames c w.lines
    mild-here = mild-front c w.lines g.more (subst (HasMildFrames c) g.lines mild)

    kept-here : NoneAfter (takes_session own.session) place w.lines
    kept-here j l lt e = kept j l lt (ap (λ ls. slice_get ls j) g.lines ∙ get-front w.lines g.more j l e)

    has-room : last_revision ≤ℤ revision w.store → ⊥
    has-room full = let longer = ((g.store).before).longer in omega (arith, ints, longer, full, room)

    -- a frame that was shown is mild
    shown-mild : (before : List TranscriptLine) (i : ℕ) (z : ℤ) (f : List ℕ) → w.lines ≡ before ++ FrameLine c i z f ∷ [] → 1 ≤ i → (has_header (read_request f) ≡ true) × (closes_after (read_request f) ≡ false)
    shown-mild before i z f e least = mild-here (length before) i z f (ap (λ ls. slice_get ls (length before)) e ∙ at-end) least
      where
        zero-more : length before + 0 ≡ length before
        zero-more = omega arith

        at-end : slice_get (before ++ FrameLine c i z f ∷ []) (length before) ≡ Some (FrameLine c i z f)
        at-end = ap (slice_get (before ++ FrameLine c i z f ∷ [])) (sym zero-more) ∙ slice_get-back before (FrameLine c i z f ∷ []) 0

  module _ (w : World) (g : Grows w last) (k : IsKept w) (attached : attach_of c w.lines ≡ Some (place, own)) where
    legal-here : is_legal w.lines ≡ true
    legal-here = ((((k.accounted).whole).holds).serves).legal

    module _ (x : Conn) (core : Core) (there : conn_at c w ≡ Some x) (actor : x.actor ≡ Connection core) where
      serves : is_served core.stage ≡ true → IsServingConn w.store w.lines c core x.flight
      serves served = ((k.accounted).whole).serving c x core there actor served

      held : (s : IsServingConn w.store w.lines c core x.flight) → NoneAfter (takes_session core.who.session) s.place w.lines
      held s =
          let same : ◌≡◌ {A = ℕ × Attachment} (place, own) (s.place, attachment core.who) = some_is (sym attached ∙ s.attached) in
          subst (λ (o : ℕ × Attachment). NoneAfter (takes_session o.1.session) o.0 w.lines) same (kept-here w g)

      staying : is_served core.stage ≡ true → StaysOpen c w
      staying served =
          let s = serves served in
          record {
            conn = x;
            core = core;
            there = there;
            actor = actor;
            lasting = serving-lasts w.store w.lines c core x.flight legal-here s (held s) (mild-here w g) served;
            here = here-now w.lines c s.place (attachment core.who) legal-here s.attached s.least (held s) (mild-here w g);
          }

      served-least : is_served core.stage ≡ true → 1 ≤ waits_from core.stage core.next
      served-least served = let s = serves served in waits-least w.store w.lines c core x.flight legal-here s (held s) (mild-here w g) core.stage served

    greeted : (x : Conn) (core : Core) (y : Connect) → conn_at c w ≡ Some x → x.actor ≡ Connection core → core.stage ≡ Connecting y → IsConnecting w.store w.lines c core y x.flight → IsGreeted c w
    greeted x core y there actor stage known = by x.flight refl known.flies
      where
        by : (f : Option Flight) → x.flight ≡ f → IsConnectFlight w.store w.lines c known.place y f → IsGreeted c w
        by None e h = absurd h
        by (Some (Out a)) e h = absurd (none_some (sym h.unattached ∙ attached))
        by (Some Denied) e h = absurd (none_some (sym h ∙ attached))
        by (Some (Carried a)) e h = record { conn = x; core = core; connect = y; there = there; actor = actor; stage = stage; answer = a; flight = e; known = subst (IsConnecting w.store w.lines c core y) e known }

    pub phase : (x : Conn) (core : Core) → conn_at c w ≡ Some x → x.actor ≡ Connection core → StaysOpen c w ⊎ IsGreeted c w
    phase x core there actor = by core.stage refl (core-of w c x core (k.accounted).known there actor).1
      where
        by : (st : Stage) → core.stage ≡ st → IsInStage w.store w.lines c core x.flight st → StaysOpen c w ⊎ IsGreeted c w
        by (Unconnected fresh) e h = absurd (none_some (sym (h.0).unattached ∙ attached))
        by (Connecting y) e h = inr (greeted x core y there actor e h)
        by Ready e h = inl (staying x core there actor (ap is_served e))
        by (KeepingAlive f) e h = inl (staying x core there actor (ap is_served e))
        by (Checking f) e h = inl (staying x core there actor (ap is_served e))
        by (Reading xid r v ws) e h = inl (staying x core there actor (ap is_served e))
        by (Committing xid r v q m) e h = inl (staying x core there actor (ap is_served e))
        by (Waiting q) e h = inl (staying x core there actor (ap is_served e))
        by Shut e h = absurd (true-false (sym (ap is_shut e) ∙ ((k.accounted).whole).unshut c x core there actor))

    -- its connect has come
    frames-least : (x : Conn) (core : Core) → conn_at c w ≡ Some x → x.actor ≡ Connection core → 1 ≤ x.frames
    frames-least x core there actor = omega (arith, (known.0).came, by core.stage refl known.1)
      where
        known : HasFrames w.lines c x.frames core × IsInStage w.store w.lines c core x.flight core.stage
        known = core-of w c x core (k.accounted).known there actor

        by : (st : Stage) → core.stage ≡ st → IsInStage w.store w.lines c core x.flight st → 1 ≤ waits_from core.stage core.next
        by (Unconnected fresh) e h = absurd (none_some (sym (h.0).unattached ∙ attached))
        by (Connecting y) e h = omega (arith, ap (λ st. waits_from st core.next) e, h.next)
        by Ready e h = served-least x core there actor (ap is_served e)
        by (KeepingAlive f) e h = served-least x core there actor (ap is_served e)
        by (Checking f) e h = served-least x core there actor (ap is_served e)
        by (Reading xid r v ws) e h = served-least x core there actor (ap is_served e)
        by (Committing xid r v q m) e h = served-least x core there actor (ap is_served e)
        by (Waiting q) e h = served-least x core there actor (ap is_served e)
        by Shut e h = absurd (true-false (sym (ap is_shut e) ∙ ((k.accounted).whole).unshut c x core there actor))

    -- ---- frames

    pub taking : (x : Conn) (core : Core) → conn_at c w ≡ Some x → x.actor ≡ Connection core → IsTaking c w x
    taking x core there actor = record { there = there; takes = by (phase x core there actor); least = frames-least x core there actor }
      where
        by : StaysOpen c w ⊎ IsGreeted c w → Takes c w x
        by (inl s) = stays s
        by (inr q) = waits q.core q.connect (ap (λ (u : Conn). u.actor) (some_is (sym there ∙ q.there)) ∙ q.actor) q.stage

  -- one frame: the connection is open after it
  one-taken : (w mid : World) (x : Conn) (f : List ℕ) (fs : List (List ℕ)) → Grows mid last → IsTaking c w x → (hd : Handed c (frame_lines c (counted_up (x.frames + 1)) (zxid_at w.store) fs) (shown_frame c w x f) (input.Frame f) mid)
      → (y : Conn) × IsTaking c mid y × IsAs x y
  one-taken w mid x f fs g t hd = (y, record { there = there; takes = by t.takes; least = counted }, record { rest = ap (λ (u : Conn). u.stream.rest) (sym is_v); proxy = ap (λ (u : Conn). u.proxy) (sym is_v) })
    where
      v : Conn
      v = record x { frames = counted_up (x.frames + 1) }

      y : Conn
      y = record (hd.conn) { actor = after_step hd.next; flight = (acts_all c (kind_asked c (Connection hd.next)) (frame_lines c (counted_up (x.frames + 1)) (zxid_at w.store) fs) hd.conn.flight hd.out).flight }

      is_v : record x { frames = counted_up (x.frames + 1) } ≡ hd.conn
      is_v = some_is (sym (conn-here w c (record x { frames = counted_up (x.frames + 1) })) ∙ hd.found)

      there : conn_at c mid ≡ Some (record (hd.conn) { actor = after_step hd.next; flight = (acts_all c (kind_asked c (Connection hd.next)) (frame_lines c (counted_up (x.frames + 1)) (zxid_at w.store) fs) hd.conn.flight hd.out).flight })
      there = ap (conn_at c) hd.result ∙ conn-here (shown_frame c w x f) c (record (hd.conn) { actor = after_step hd.next; flight = (acts_all c (kind_asked c (Connection hd.next)) (frame_lines c (counted_up (x.frames + 1)) (zxid_at w.store) fs) hd.conn.flight hd.out).flight })

      counted : 1 ≤ hd.conn.frames
      counted = let up : 1 ≤ counted_up (x.frames + 1) = grind (arith, nat_tests) in omega (arith, up, ap (λ (u : Conn). u.frames) is_v)

      after : Grows (shown_frame c w x f) last
      after = grows-then (shown_frame c w x f) mid last (handed-onward (shown_frame c w x f) mid c (frame_lines c (counted_up (x.frames + 1)) (zxid_at w.store) fs) (input.Frame f) hd).grows g

      good : (has_header (read_request f) ≡ true) × (closes_after (read_request f) ≡ false)
      good = shown-mild (shown_frame c w x f) after w.lines x.frames (zxid_at w.store) f refl t.least

      by : Takes c w x → Takes c mid (record (hd.conn) { actor = after_step hd.next; flight = (acts_all c (kind_asked c (Connection hd.next)) (frame_lines c (counted_up (x.frames + 1)) (zxid_at w.store) fs) hd.conn.flight hd.out).flight })
      by (stays s) = stays (one-stays c w mid x f fs t.there hd good.0 good.1 s)
      by (waits core z actor stage) =
          let is_core : core ≡ hd.core = core-same core hd.core (sym actor ∙ ap (λ (u : Conn). u.actor) is_v ∙ hd.serving) in
          let next : hd.next.stage ≡ Connecting z = queue-waits hd.core hd.next z f w.clock hd.out (ap (λ (d : Core). d.stage) (sym is_core) ∙ stage) good.0 hd.stepped in
          waits hd.next z (ap (λ b. if b then Closed else Connection hd.next) (ap is_shut next)) next

  taking-open : (w : World) (x : Conn) → IsTaking c w x → (core : Core) × (x.actor ≡ Connection core)
  taking-open w x t = by t.takes
    where
      by : Takes c w x → (core : Core) × (x.actor ≡ Connection core)
      by (stays s) = (s.core, ap (λ (u : Conn). u.actor) (some_is (sym t.there ∙ s.there)) ∙ s.actor)
      by (waits core y actor stage) = (core, actor)

  open-now : (w : World) (x : Conn) → IsTaking c w x → is_open_conn (conn_at c w) ≡ true
  open-now w x t = let o = taking-open w x t in ap is_open_conn t.there ∙ ap (λ a. not (is_closed_actor a)) o.1

  as-then : (x y z : Conn) → IsAs x y → IsAs y z → IsAs x z
  as-then x y z a b = record { rest = b.rest ∙ a.rest; proxy = b.proxy ∙ a.proxy }

  frames-taken : (w w' : World) (x : Conn) (fs : List (List ℕ)) → Grows w' last → IsTaking c w x → FramesArrive c w fs w' → (y : Conn) × IsTaking c w' y × IsAs x y
  frames-taken w w' x [] g t h = (x, subst (λ v. IsTaking c v x) (sym h) t, record { rest = refl; proxy = refl })
  frames-taken w w' x (f ∷ fs) g t (x0, mid, found, hd, rest) = go (is_open_conn (conn_at c mid)) (open-now mid one.0 one.1) (λ h. frames-taken mid w' one.0 fs g one.1 h) rest
    where
      same : x0 ≡ x
      same = some_is (sym found ∙ t.there)

      handed : Handed c (frame_lines c (counted_up (x.frames + 1)) (zxid_at w.store) fs) (shown_frame c w x f) (input.Frame f) mid
      handed = subst (λ (u : Conn). Handed c (frame_lines c (counted_up (u.frames + 1)) (zxid_at w.store) fs) (shown_frame c w u f) (input.Frame f) mid) same hd

      then_last : (b : Bool) → MatchBool b (FramesArrive c mid fs w') (w' ≡ mid) → Grows mid last
      then_last true r = grows-then mid w' last (frames-onward c mid w' fs r).grows g
      then_last false e = subst (λ v. Grows v last) e g

      one : (y : Conn) × IsTaking c mid y × IsAs x y
      one = one-taken w mid x f fs (then_last (is_open_conn (conn_at c mid)) rest) t handed

      go : (b : Bool) → b ≡ true → (FramesArrive c mid fs w' → (y : Conn) × IsTaking c w' y × IsAs one.0 y) → MatchBool b (FramesArrive c mid fs w') (w' ≡ mid) → (y : Conn) × IsTaking c w' y × IsAs x y
      go true e later r = let z = later r in (z.0, z.1, as-then x one.0 z.0 one.2 z.2)
      go false e later r = absurd (true-false (sym e))

  -- bytes: the connection is open after them, or they had a length out of range
  pub arrives-open : (w w' : World) (bytes : List ℕ) → Grows w last → Grows w' last → IsKept w → attach_of c w.lines ≡ Some (place, own) → IsOpenAt c p w → Arrives c w bytes w' → ((n : ℤ) → IsEndedBadly c n w' → ⊥) → IsOpenAt c p w'
  arrives-open w w' bytes gw g k attached o a unbad = ends a.bad refl a.ends
    where
      is_conn : o.conn ≡ a.conn
      is_conn = some_is (sym o.there ∙ a.found)

      v : Conn
      v = record (a.conn) { stream = a.stream }

      was : IsTaking c w a.conn
      was = taking w gw k attached a.conn o.core a.found (ap (λ (u : Conn). u.actor) (sym is_conn) ∙ o.actor)

      began : IsTaking c (with_conn w c (record (a.conn) { stream = a.stream })) (record (a.conn) { stream = a.stream })
      began = record { there = conn-here w c (record (a.conn) { stream = a.stream }); takes = by was.takes; least = was.least }
        where
          by : Takes c w a.conn → Takes c (with_conn w c (record (a.conn) { stream = a.stream })) (record (a.conn) { stream = a.stream })
          by (stays s) = stays (record { conn = record (a.conn) { stream = a.stream }; core = s.core; there = conn-here w c (record (a.conn) { stream = a.stream }); actor = ap (λ (u : Conn). u.actor) (some_is (sym a.found ∙ s.there)) ∙ s.actor; lasting = s.lasting; here = s.here })
          by (waits core y actor stage) = waits core y actor stage

      after : (b : Option ℤ) → EndsBadly c a.mid (a.stream).place b w' → Grows a.mid last
      after b e = grows-then a.mid w' last (badly-onward c a.mid w' (a.stream).place b e).grows g

      came : (y : Conn) × IsTaking c a.mid y × IsAs (record (a.conn) { stream = a.stream }) y
      came = frames-taken (with_conn w c (record (a.conn) { stream = a.stream })) a.mid (record (a.conn) { stream = a.stream }) a.frames (after a.bad a.ends) began a.arrive

      ends : (b : Option ℤ) → a.bad ≡ b → EndsBadly c a.mid (a.stream).place b w' → IsOpenAt c p w'
      ends None e h =
          let t = taking-open a.mid came.0 came.1 in
          subst (IsOpenAt c p) (sym h) (record { conn = came.0; core = t.0; there = (came.1).there; actor = t.1; proxy = (came.2).proxy ∙ ap (λ (u : Conn). u.proxy) (sym is_conn) ∙ o.proxy })
      ends (Some n) e h = absurd (by (is_open_conn (conn_at c a.mid)) (open-now a.mid came.0 came.1) h)
        where
          shut : Handed c [] a.mid (input.BadLength (a.stream).place n) w' → ⊥
          shut hd =
              let same : came.0 ≡ hd.conn = some_is (sym (came.1).there ∙ hd.found) in
              let t = taking-open a.mid came.0 came.1 in
              unbad n (record {
                conn = record (hd.conn) { actor = after_step hd.next; flight = (acts_all c (kind_asked c (Connection hd.next)) [] hd.conn.flight hd.out).flight };
                there = ap (conn_at c) hd.result ∙ conn-here a.mid c (record (hd.conn) { actor = after_step hd.next; flight = (acts_all c (kind_asked c (Connection hd.next)) [] hd.conn.flight hd.out).flight });
                closed = shut-closed hd.core hd.next (input.BadLength (a.stream).place n) (cause.BadLength (a.stream).place n) (a.mid).clock hd.out refl hd.stepped;
                bad = ap (λ (u : Conn). bad_length u.stream.rest) (sym same) ∙ ap bad_length (came.2).rest ∙ (a.cuts).stays ∙ e;
              })

          by : (b : Bool) → b ≡ true → MatchBool b (Handed c [] a.mid (input.BadLength (a.stream).place n) w') (w' ≡ a.mid) → ⊥
          by true f r = shut r
          by false f r = true-false (sym f)

  -- ---- what it has out is carried out, and answered

  open-as : (w : World) → (o : IsOpenAt c p w) → (x : Conn) → conn_at c w ≡ Some x → x.proxy ≡ p
  open-as w o x there = ap (λ (u : Conn). u.proxy) (some_is (sym there ∙ o.there)) ∙ o.proxy

  pub exec-open : (w w' : World) → Grows w last → IsKept w → attach_of c w.lines ≡ Some (place, own) → IsOpenAt c p w → Executes c w w' → IsOpenAt c p w'
  exec-open w w' g k attached o ex = by (phase w g k attached o.conn o.core o.there o.actor)
    where
      x : Conn
      x = record (ex.conn) { flight = Some ex.flight }

      carried-out : (a : Answer) (b : Asking) → Some (Carried a) ≡ Some (Out b) → ⊥
      carried-out a b e = cc

      by : StaysOpen c w ⊎ IsGreeted c w → IsOpenAt c p w'
      by (inl s) =
          let there = ap (conn_at c) ex.result ∙ conn-here ex.mid c (record (ex.conn) { flight = Some ex.flight }) in
          record { conn = record (ex.conn) { flight = Some ex.flight }; core = s.core; there = there; actor = ap (λ (u : Conn). u.actor) (some_is (sym ex.found ∙ s.there)) ∙ s.actor; proxy = open-as w o ex.conn ex.found }
      by (inr q) = absurd (carried-out q.answer ex.asking (sym q.flight ∙ ap (λ (u : Conn). u.flight) (some_is (sym q.there ∙ ex.found)) ∙ ex.out))

  -- an answer that attached it
  greeted-open : (w w' : World) → Grows w last → attach_of c w.lines ≡ Some (place, own) → IsOpenAt c p w → (q : IsGreeted c w) → Handed c [] (with_conn w c (record (q.conn) { flight = None })) (input.Answer q.answer) w' → IsOpenAt c p w'
  greeted-open w w' g attached o q hd = record {
    conn = record (hd.conn) { actor = after_step hd.next; flight = (acts_all c (kind_asked c (Connection hd.next)) [] hd.conn.flight hd.out).flight };
    core = hd.next;
    there = ap (conn_at c) hd.result ∙ conn-here (with_conn w c (record (q.conn) { flight = None })) c (record (hd.conn) { actor = after_step hd.next; flight = (acts_all c (kind_asked c (Connection hd.next)) [] hd.conn.flight hd.out).flight });
    actor = ap (λ b. if b then Closed else Connection hd.next) (lasting-open hd.next.stage (lasting.work));
    proxy = ap (λ (u : Conn). u.proxy) (sym is_conn) ∙ open-as w o q.conn q.there;
  }
    where
      is_conn : record (q.conn) { flight = None } ≡ hd.conn
      is_conn = some_is (sym (conn-here w c (record (q.conn) { flight = None })) ∙ hd.found)

      is_core : q.core ≡ hd.core
      is_core = core-same q.core hd.core (sym q.actor ∙ ap (λ (u : Conn). u.actor) is_conn ∙ hd.serving)

      stage : hd.core.stage ≡ Connecting q.connect
      stage = ap (λ (d : Core). d.stage) (sym is_core) ∙ q.stage

      step : StepsOpen hd.core (input.Answer q.answer) w.clock hd.next hd.out
      step = steps-open hd.core hd.next (input.Answer q.answer) w.clock hd.out (ap is_shut stage) hd.stepped

      handled : Connects hd.core q.connect (Some q.answer) w.clock step.mid step.first
      handled = subst (Answers hd.core q.answer w.clock step.mid step.first) stage step.handled

      ready : IsReady hd.core step.mid
      ready = greets w.lines c hd.core step.mid q.connect w.clock step.first (place, own) attached q.connect.phase q.answer refl ((q.known).flies).own handled

      waiting : AreLasting hd.core.waiting
      waiting = subst (λ (d : Core). AreLasting d.waiting) is_core (waiting-lasting w.lines c 1 q.core.waiting (mild-here w g) (omega arith) (q.known).waiting)

      lasting : IsLasting hd.next
      lasting = goes-lasting w.clock step.mid hd.next step.later (record { work = subst IsLastingIn (sym ready.stage) tt; waiting = subst AreLasting (sym ready.waiting) waiting }) step.goes

  -- it stays at its proxy
  handed-open : (w w' : World) (i : Input) (x : Conn) → conn_at c w ≡ Some x → x.proxy ≡ p → Handed c [] w i w' → StaysOpen c w' → IsOpenAt c p w'
  handed-open w w' i x there at hd s = record {
    conn = s.conn;
    core = s.core;
    there = s.there;
    actor = s.actor;
    proxy = ap (λ (u : Conn). u.proxy) (some_is (sym s.there ∙ now)) ∙ ap (λ (u : Conn). u.proxy) (some_is (sym hd.found ∙ there)) ∙ at;
  }
    where
      now : conn_at c w' ≡ Some (record (hd.conn) { actor = after_step hd.next; flight = (acts_all c (kind_asked c (Connection hd.next)) [] hd.conn.flight hd.out).flight })
      now = ap (conn_at c) hd.result ∙ conn-here w c (record (hd.conn) { actor = after_step hd.next; flight = (acts_all c (kind_asked c (Connection hd.next)) [] hd.conn.flight hd.out).flight })

  carried-same : (a b : Answer) → Some (Carried a) ≡ Some (Carried b) → a ≡ b
  carried-same a b e = cc

  denied-not : (a : Answer) → Some (Carried a) ≡ Some Denied → ⊥
  denied-not a e = cc

  pub answer-open : (w w' : World) → Grows w last → IsKept w → attach_of c w.lines ≡ Some (place, own) → IsOpenAt c p w → Delivers c w w' (flight_at c w) → IsOpenAt c p w'
  answer-open w w' g k attached o d = by-flight o.conn.flight refl (subst (Delivers c w w') (ap (option_and_then (λ (y : Conn). y.flight)) o.there) d)
    where
      handed : (a : Answer) → AnswerComes c (landed c w) a w' → Handed c [] (with_conn w c (record (o.conn) { flight = None })) (input.Answer a) w'
      handed a h =
          let t : AnswerComes c (with_conn w c (record (o.conn) { flight = None })) a w' = subst (λ u. AnswerComes c u a w') (landed-is w c o.conn o.there) h in
          let is : t.0 ≡ record (o.conn) { flight = None } = some_is (sym t.1 ∙ conn-here w c (record (o.conn) { flight = None })) in
          subst (λ b. AnswerComesTo c (with_conn w c (record (o.conn) { flight = None })) (record (o.conn) { flight = None }) a w' b) o.actor (subst (λ (y : Conn). AnswerComesTo c (with_conn w c (record (o.conn) { flight = None })) y a w' y.actor) is t.2)

      by-phase : (a : Answer) → o.conn.flight ≡ Some (Carried a) → Handed c [] (with_conn w c (record (o.conn) { flight = None })) (input.Answer a) w' → StaysOpen c w ⊎ IsGreeted c w → IsOpenAt c p w'
      by-phase a e hd (inl s) =
          let same : o.conn ≡ s.conn = some_is (sym o.there ∙ s.there) in
          let h : Handed c [] (with_conn w c (record (s.conn) { flight = None })) (input.Answer a) w' = subst (λ (u : Conn). Handed c [] (with_conn w c (record u { flight = None })) (input.Answer a) w') same hd in
          handed-open (with_conn w c (record (o.conn) { flight = None })) w' (input.Answer a) (record (o.conn) { flight = None }) (conn-here w c (record (o.conn) { flight = None })) o.proxy hd
          (answer-stays w w' c s k.accounted a (ap (λ (u : Conn). u.flight) (sym same) ∙ e) h)
      by-phase a e hd (inr q) =
          let same : o.conn ≡ q.conn = some_is (sym o.there ∙ q.there) in
          let is : a ≡ q.answer = carried-same a q.answer (sym e ∙ ap (λ (u : Conn). u.flight) same ∙ q.flight) in
          greeted-open w w' g attached o q (subst (λ b. Handed c [] (with_conn w c (record (q.conn) { flight = None })) (input.Answer b) w') is (subst (λ (u : Conn). Handed c [] (with_conn w c (record u { flight = None })) (input.Answer a) w') same hd))

      -- a store with room denied nothing
      by-denied : o.conn.flight ≡ Some Denied → StaysOpen c w ⊎ IsGreeted c w → ⊥
      by-denied e (inl s) =
          let same : s.conn ≡ o.conn = some_is (sym s.there ∙ o.there) in
          has-room w g (((k.roomy).conns c s.conn s.core s.there s.actor).full (lasting-served s.core.stage (s.lasting).work) (ap (λ (u : Conn). u.flight) same ∙ e))
      by-denied e (inr q) = denied-not q.answer (sym q.flight ∙ ap (λ (u : Conn). u.flight) (some_is (sym q.there ∙ o.there)) ∙ e)

      by-flight : (f : Option Flight) → o.conn.flight ≡ f → Delivers c w w' f → IsOpenAt c p w'
      by-flight None e h = absurd h
      by-flight (Some (Out b)) e h = absurd h
      by-flight (Some (Carried a)) e h = by-phase a e (handed a h) (phase w g k attached o.conn o.core o.there o.actor)
      by-flight (Some Denied) e h = absurd (by-denied e (phase w g k attached o.conn o.core o.there o.actor))

  -- ---- an entry

  -- a connect awaits none
  no-entry : (w : World) (q : IsGreeted c w) → next_entry c w ≡ None
  no-entry w q = ap (λ o. option_and_then (entry_after w.entries) (option_and_then (λ (x : Conn). cursor_of x.actor) o)) q.there ∙ ap (λ a. option_and_then (entry_after w.entries) (cursor_of a)) q.actor ∙ ap (λ st. option_and_then (entry_after w.entries) (cursor_wanted (wanted_in q.core st))) q.stage

  pub entry-open : (w w' : World) → Grows w last → IsKept w → attach_of c w.lines ≡ Some (place, own) → IsOpenAt c p w → EntersBy c w w' (next_entry c w) → IsOpenAt c p w'
  entry-open w w' g k attached o d = by (phase w g k attached o.conn o.core o.there o.actor)
    where
      taken : StaysOpen c w → (e : Option Entry) → next_entry c w ≡ e → EntersBy c w w' e → IsOpenAt c p w'
      taken s None e h = absurd h
      taken s (Some x) e h = handed-open w w' h.0 o.conn o.there o.proxy h.2 (taken-stays w w' c s k.accounted x h.0 e h.1 h.2)

      by : StaysOpen c w ⊎ IsGreeted c w → IsOpenAt c p w'
      by (inl s) = taken s (next_entry c w) refl d
      by (inr q) = absurd (subst (EntersBy c w w') (no-entry w q) d)

  -- ---- a settle of it

  settling-open : (w w' : World) (h : Happening) → Settling c w h → Does w h w' → Grows w last → IsKept w → attach_of c w.lines ≡ Some (place, own) → IsOpenAt c p w → IsOpenAt c p w'
  settling-open w w' _ carries d g k attached o = exec-open w w' g k attached o d
  settling-open w w' _ answers d g k attached o = answer-open w w' g k attached o d
  settling-open w w' _ (enters idle) d g k attached o = entry-open w w' g k attached o d

  pub settles-open : (n : ℕ) (w w' : World) → Settles n c w w' → Grows w' last → IsKept w → attach_of c w.lines ≡ Some (place, own) → IsOpenAt c p w → IsOpenAt c p w'
  settles-open zero w w' h g k attached o = subst (IsOpenAt c p) (sym h) o
  settles-open (suc n) w w' h g k attached o = go (settling c w) refl (λ mid. settles-open n mid w') h
    where
      go : (s : Option Happening) → settling c w ≡ s → ((mid : World) → Settles n c mid w' → Grows w' last → IsKept mid → attach_of c mid.lines ≡ Some (place, own) → IsOpenAt c p mid → IsOpenAt c p w') → SettlesOn n c w w' s → IsOpenAt c p w'
      go None e later r = subst (IsOpenAt c p) (sym r) o
      go (Some x) e later (mid, does, rest) =
          let s = settling-is c w x e in
          let one = (settling-onward c w mid x s does).grows in
          let more = (settles-onward n c mid w' rest).grows in
          later mid rest g (settling-kept c w mid x s does k) (subst (λ ls. attach_of c ls ≡ Some (place, own)) (sym one.lines) (attach_of-push w.lines one.more c (place, own) attached))
          (settling-open w mid x s does (grows-then w mid last one (grows-then mid w' last more g)) k attached o)
