-- A frame comes, in whatever stage its connection is: what is known of the connection after it.
use Rattle.ev_types.specs.Store.{Store}
use Rattle.std.proofs.Common.{Bool, List, [], ap, append-nil, arith, false, inl, inr, length, refl, subst, sym, true, ℕ, ℤ, ◌++◌, ◌+◌, ◌∙◌, ◌∷◌, ◌≡◌, ◌≤◌}
use Rattle.std.proofs.lemmas.Bool.Decides.{nat_tests}
use Rattle.std.specs.Prelude.{None, Option, Some, if◌then◌else◌, ◌&&◌, ◌==◌}
use Rattle.zk_jute.specs.Connects.{read_connect}
use Rattle.zk_jute.specs.Requests.{read_request}
use Rattle.zk_model.specs.declared.connect.ConnectRequest.{ConnectRequest}
use Rattle.zk_transcript.proofs.Histories.{first_shown-push}
use Rattle.zk_transcript.proofs.Lookups.{first_place-new, first_place-skip}
use Rattle.zk_transcript.specs.Conversations.{IsInConnection, close_shown}
use Rattle.zk_transcript.specs.History.{after, frame_shown, open_shown, when}
use Rattle.zk_transcript.specs.Walks.{Walker, placed_frame}
use Rattle.zk_service.specs.Answers.{has_header}
use Rattle.zk_service.specs.declared.cause.Cause.TheVariants as cause
use Rattle.zk_service.specs.declared.cause.Cause.{Cause}
use Rattle.zk_transcript.specs.declared.transcript.TranscriptLine.TheVariants.{Frame as FrameLine}
use Rattle.zk_transcript.specs.declared.transcript.TranscriptLine.{TranscriptLine}
use Rattle.zp_script.specs.Handing.{Handed}
use Rattle.zp_script.specs.Kinds.{kind_asked}
use Rattle.zp_script.specs.StepOutcomes.{StepOutcome, acts_all, leaves, quiet}
use Rattle.zp_script.specs.Worlds.{Closed, Conn, Connection, World, after_step}
use Rattle.zp_script.specs.declared.flight.Flight.TheVariants.{Carried, Denied, Out}
use Rattle.zp_script.specs.declared.flight.Flight.{Flight}
use Rattle.zp_step.proofs.Ending.{steps_end_well}
use Rattle.zp_laws.proofs.Steps.{frames-push}
use Rattle.zp_step.specs.Ending.{EndsWell, IsNumbered, sends}
use Rattle.zp_laws.specs.Frames.{AreFrames, IsFrameAt}
use Rattle.zp_step.specs.Stages.{is_served, next_frame, waits_from, Checking, Committing, Connecting, Core, KeepingAlive, Reading, Ready, Shut, Stage, Unconnected, Waiting, asked_of, is_shut, max_count}
use Rattle.zp_step.proofs.Shutting.{goes-still, steps-open}
use Rattle.zp_step.specs.Connects.{Opens, begun, connected, kept_by}
use Rattle.zp_step.specs.Replies.{Is, closed_by}
use Rattle.zp_step.specs.Steps.{Comes, StepsOpen, with_frame_counted, queued}
use Rattle.zp_step.specs.declared.action.Action.TheVariants as action
use Rattle.zp_step.specs.declared.action.Action.{Action}
use Rattle.zp_step.specs.declared.input.Input.TheVariants as input
use Rattle.zp_world_laws.proofs.Acting.{Acts, leaves-acts}
use Rattle.zp_world_laws.proofs.Actions.{said}
use Rattle.zp_world_laws.proofs.Arriving.{Arrived, Queues, Shuts, arrived, busy-whole, is_busy}
use Rattle.zp_world_laws.proofs.Closing.{AreShown, but-of}
use Rattle.zp_world_laws.proofs.Greeting.{IsConnectAt, asking_core, asks-acts, in_phase}
use Rattle.zp_world_laws.proofs.Handing.{IsReadyFor, handed-whole, stays-served}
use Rattle.zp_world_laws.proofs.Knowing.{AreAside}
use Rattle.zp_world_laws.proofs.Stepping.{closing-acts, counts-on, handed-acts}
use Rattle.zp_world_laws.proofs.Talking.{first_place-front}
use Rattle.zp_world_laws.proofs.Within.{within-more, within-same}
use Rattle.zp_world_laws.specs.Bounds.{attachment}
use Rattle.zp_world_laws.specs.Connecting.{IsInStage, IsUnconnected, RestsOn}
use Rattle.zp_world_laws.specs.Connections.{IsFlying, IsServingConn, Whole}
use Rattle.zp_world_laws.specs.Counting.{HasFrames, IsLined}
use Rattle.zs_session.specs.Connecting.{Waits as ConnectWaits, asked_in_phase}
use Rattle.zs_session.specs.declared.connect.Connect.{Connect}
use Rattle.zs_session.specs.declared.connect.ConnectStep.TheVariants as steps
use Rattle.zs_session.specs.declared.connect.ConnectStep.{ConnectStep}
use Rattle.zk_service.specs.declared.fresh.Fresh.{Fresh}
use Rattle.zs_session.specs.declared.connect.Phase.TheVariants.{Looking}
use Rattle.zs_session.specs.declared.connect.Phase.{Phase}
use Rattle.zx_base.proofs.Options.{none_some}
use Rattle.zx_base.proofs.Booleans.{same-test as same-nat, true-not_false as true-false}

-- ---- its line

-- the frame's own place
pub frame-placed : (lines : List TranscriptLine) (c i : ℕ) (z : ℤ) (bytes : List ℕ) → placed_frame c i lines ≡ None → placed_frame c i (lines ++ FrameLine c i z bytes ∷ []) ≡ Some (length lines, bytes)
frame-placed lines c i z bytes none = first_place-new (frame_shown c i) 0 lines (FrameLine c i z bytes) bytes none (ap (λ b. when (b && (i == i)) bytes) (same-nat c) ∙ ap (λ b. when b bytes) (same-nat i)) ∙ ap (λ n. Some (n, bytes)) (omega arith)

pub lined-frame : (lines : List TranscriptLine) (c n : ℕ) (z : ℤ) (bytes : List ℕ) → IsLined lines c n → IsLined (lines ++ FrameLine c n z bytes ∷ []) c (n + 1)
lined-frame lines c n z bytes k = record {
  offer = k.offer;
  opened = first_shown-push (open_shown c) lines (FrameLine c n z bytes ∷ []) k.offer k.opened;
  unended = first_place-front (close_shown c) 0 lines (FrameLine c n z bytes ∷ []) (λ j. refl) ∙ k.unended;
  to_come = λ i le. first_place-skip (frame_shown c i) 0 lines (FrameLine c n z bytes) (not-it i le) ∙ k.to_come i (omega (arith, le));
}
  where
    not-it : (i : ℕ) → n + 1 ≤ i → frame_shown c i (FrameLine c n z bytes) ≡ None
    not-it i le = let apart : (i == n) ≡ false = grind (arith, nat_tests) in ap (λ b. when ((c == c) && b) bytes) apart ∙ both-off (c == c)
      where
        both-off : (b : Bool) → when (b && false) bytes ≡ None
        both-off true = refl
        both-off false = refl

-- ---- it waits after the others

stage-queued : (s : Store) (lines : List TranscriptLine) (c : ℕ) (core : Core) (bytes : List ℕ) (f : Option Flight) (st : Stage) → is_busy st ≡ true → core.stage ≡ st → IsFrameAt lines c (next_frame core) bytes → IsInStage s lines c core f st → IsInStage s lines c (queued core bytes) f st
stage-queued s lines c core bytes f (Connecting x) busy e came k = record {
  untouched = k.untouched;
  next = k.next;
  waiting = frames-push lines c 1 core.waiting bytes k.waiting (subst (λ i. IsFrameAt lines c i bytes) (ap (λ st. waits_from st core.next + length core.waiting) e ∙ ap (λ n. n + length core.waiting) k.next) came);
  place = k.place;
  bytes = k.bytes;
  framed = k.framed;
  reads = k.reads;
  flies = k.flies;
}
stage-queued s lines c core bytes f (KeepingAlive b) busy e came k = tt
stage-queued s lines c core bytes f (Checking b) busy e came k = tt
stage-queued s lines c core bytes f (Reading xid r v ws) busy e came k = tt
stage-queued s lines c core bytes f (Committing xid r v p m) busy e came k = tt
stage-queued s lines c core bytes f (Unconnected fresh) busy e came k = absurd (cc)
stage-queued s lines c core bytes f Ready busy e came k = absurd (cc)
stage-queued s lines c core bytes f (Waiting p) busy e came k = absurd (cc)
stage-queued s lines c core bytes f Shut busy e came k = absurd (cc)

-- what is known of a connection whose frame has just been shown
pub record HasJustCome (w : World) (c : ℕ) (conn : Conn) (core : Core) (bytes : List ℕ) : Type 0 where
  pub lined : IsLined w.lines c conn.frames
  pub numbered : IsNumbered core core.stage
  pub came : next_frame core + 1 ≡ conn.frames
  pub most : conn.frames ≤ max_count
  pub place : ℕ
  pub framed : placed_frame c (next_frame core) w.lines ≡ Some (place, bytes)
  pub stage : IsInStage w.store w.lines c core conn.flight core.stage

module _ (w w' : World) (c : ℕ) (onward : List TranscriptLine) (z : ℤ) (bytes : List ℕ) (hd : Handed c onward w (input.Frame bytes) w') (last : z ≡ (after w.lines).zxid) (shown : AreShown c z onward) (h : Whole w) (k : HasJustCome w c hd.conn hd.core bytes) where
  frames : is_shut hd.next.stage ≡ false → (more : List TranscriptLine) → AreAside more c → HasFrames (w.lines ++ more) c hd.conn.frames hd.next
  frames going more aside = counts-on w.lines more c hd.conn.frames hd.core hd.next (input.Frame bytes) w.clock hd.out (h.unshut c hd.conn hd.core hd.found hd.serving) hd.stepped k.numbered k.came k.most k.lined aside going

  frame-at : has_header (read_request bytes) ≡ true → IsFrameAt w.lines c (next_frame hd.core) bytes
  frame-at header = record { place = k.place; framed = k.framed; header = header; small = omega (arith, k.came, k.most) }

  -- ---- it is at work

  busy-acts : is_busy hd.core.stage ≡ true → Acts w w' c
  busy-acts busy = go (arrived hd.core hd.next bytes w.clock hd.out busy hd.stepped)
    where
      go : Arrived hd.core hd.next bytes hd.out → Acts w w' c
      go (Shuts shut why closed) = closing-acts w w' c onward (input.Frame bytes) why z hd shut closed last shown (but-of w c h)
      go (Queues is silent header) =
          let o : StepOutcome = quiet hd.conn.flight in
          let e : w' ≡ leaves c w hd.conn (Connection (queued hd.core bytes)) (quiet hd.conn.flight) =
          hd.result ∙ ap (λ l. leaves c w hd.conn (after_step hd.next) (acts_all c (kind_asked c (Connection hd.next)) onward hd.conn.flight l)) silent
          ∙ ap (λ (d : Core). leaves c w hd.conn (after_step d) (quiet hd.conn.flight)) is
          ∙ ap (λ b. leaves c w hd.conn (if b then Closed else Connection (queued hd.core bytes)) (quiet hd.conn.flight)) (h.unshut c hd.conn hd.core hd.found hd.serving) in
          leaves-acts w w' c hd.conn (Connection (queued hd.core bytes)) (quiet hd.conn.flight) hd.found e refl (busy-whole w w' c onward z bytes hd busy last shown (λ s header. frame-at header) h) (
            subst (HasFrames (w.lines ++ []) c hd.conn.frames) is (frames (ap (λ (d : Core). is_shut d.stage) is ∙ h.unshut c hd.conn hd.core hd.found hd.serving) [] (record { opens = refl; closes = λ j. refl; frames = λ i j. refl })),
            subst (λ l. IsInStage w.store l c (queued hd.core bytes) hd.conn.flight hd.core.stage) (sym (append-nil w.lines)) (stage-queued w.store w.lines c hd.core bytes hd.conn.flight hd.core.stage busy refl (frame-at header) k.stage),
          ) (within-same w.lines c)

  -- ---- it is attached, and nothing is out

  idle-acts : is_served hd.core.stage ≡ true → hd.conn.flight ≡ None → Acts w w' c
  idle-acts served none = handed-acts w w' c onward (input.Frame bytes) z hd end shown whole frames then_served says
    where
      says : IsInConnection w.lines c → IsInConnection (w.lines ++ said c (sends hd.out)) c
      says q = (let v = h.serving c hd.conn hd.core hd.found hd.serving served in within-more w.lines c hd.conn.frames (sends hd.out) k.lined (v.place, attachment hd.core.who) v.first v.packets_were v.attached v.welcomed q)

      serves : IsServingConn w.store w.lines c hd.core hd.conn.flight
      serves = h.serving c hd.conn hd.core hd.found hd.serving served

      ready : IsReadyFor w c hd.conn hd.core (input.Frame bytes)
      ready = record {
        but = but-of w c h;
        nothing_out = none;
        served = served;
        flight = hd.conn.flight;
        serves = h.serving c hd.conn hd.core hd.found hd.serving served;
        true_input = record { place = k.place; framed = k.framed; small = omega (arith, k.came, k.most) };
        idle = λ e. subst (IsFlying w.store w.lines c hd.core (h.serving c hd.conn hd.core hd.found hd.serving served).walker (h.serving c hd.conn hd.core hd.found hd.serving served).looked) none (h.serving c hd.conn hd.core hd.found hd.serving served).flies;
        answers = λ e. absurd (cc);
      }

      end : EndsWell hd.core hd.next (input.Frame bytes) hd.out
      end = steps_end_well hd.core hd.next (input.Frame bytes) w.clock hd.out (h.unshut c hd.conn hd.core hd.found hd.serving) hd.stepped

      whole : Whole w'
      whole = handed-whole w w' c onward (input.Frame bytes) hd ready z last shown

      then_served : is_shut hd.next.stage ≡ false → is_served hd.next.stage ≡ true
      then_served going = stays-served w w' c onward (input.Frame bytes) hd ready going

  -- ---- it is the connect

  connect-acts : (fresh : Fresh) → hd.core.stage ≡ Unconnected fresh → Acts w w' c
  connect-acts fresh e = go (read_connect bytes) refl (subst (Comes hd.core bytes w.clock s.mid s.first) e s.handled)
    where
      s : StepsOpen hd.core (input.Frame bytes) w.clock hd.next hd.out
      s = steps-open hd.core hd.next (input.Frame bytes) w.clock hd.out (h.unshut c hd.conn hd.core hd.found hd.serving) hd.stepped

      d : Core
      d = with_frame_counted hd.core bytes

      mine : IsUnconnected w.lines c hd.core fresh × (hd.conn.flight ≡ None)
      mine = subst (IsInStage w.store w.lines c hd.core hd.conn.flight) e k.stage

      still : (y : Core) (first : List Action) → s.mid ≡ y → s.first ≡ first → (y.stage ≡ Ready → ⊥) → (hd.next ≡ y) × (hd.out ≡ first)
      still y first f g unready =
          let t = goes-still w.clock s.mid hd.next s.later (λ r. unready (ap (λ (u : Core). u.stage) (sym f) ∙ r)) s.goes in
          (t.0 ∙ f, s.joined ∙ ap (λ l. s.first ++ l) t.1 ∙ append-nil s.first ∙ g)

      shut-by : (why : Cause) → Is (closed_by (with_frame_counted hd.core bytes) why) s.mid s.first → Acts w w' c
      shut-by why i =
          let t = still (record (with_frame_counted hd.core bytes) { stage = Shut }) (action.Close why ∷ []) i.0 i.1 (λ f. absurd (cc)) in
          closing-acts w w' c onward (input.Frame bytes) why z hd (ap (λ (y : Core). is_shut y.stage) t.0) t.1 last shown (but-of w c h)

      one : hd.core.next ≡ 1
      one = subst (IsNumbered hd.core) e k.numbered

      first-frame : next_frame hd.core ≡ 0
      first-frame = ap (λ st. waits_from st hd.core.next + length hd.core.waiting) e ∙ ap (λ l. 0 + length l) (mine.0).none_waits

      at : (r : ConnectRequest) → read_connect bytes ≡ Some r → IsConnectAt w.lines c (with_frame_counted hd.core bytes) (begun r fresh)
      at r reads = record {
        untouched = (mine.0).untouched;
        next = one;
        waiting = subst (AreFrames w.lines c 1) (sym (mine.0).none_waits) tt;
        place = k.place;
        bytes = bytes;
        framed = ap (λ n. placed_frame c n w.lines) (sym first-frame) ∙ k.framed;
        reads = reads;
      }

      by-step : (r : ConnectRequest) → read_connect bytes ≡ Some r → (p : Phase) (step : ConnectStep) → ConnectWaits (begun r fresh) Looking p step → Is (connected (with_frame_counted hd.core bytes) w.clock (in_phase (begun r fresh) p) step) s.mid s.first → Acts w w' c
      by-step r reads p (steps.Ask q) (f, g) i =
          let kept = kept_by w.clock hd.core.kept q in
          let t = still (asking_core (with_frame_counted hd.core bytes) kept (in_phase (begun r fresh) p)) (action.Ask q ∷ []) i.0 i.1 (λ u. absurd (cc)) in
          asks-acts w w' c onward (input.Frame bytes) hd (begun r fresh) (with_frame_counted hd.core bytes) h (at r reads) frames p kept q (ap (asked_in_phase (begun r fresh)) f ∙ sym g) (subst (RestsOn w.store (after w.lines).zxid r) (sym f) tt) (mine.0).unattached t.0 t.1
      by-step r reads p (steps.Attached response who timeout number zxid) (f, g) i = absurd (none_some g)
      by-step r reads p (steps.Ahead client head) (f, g) i = absurd (none_some g)
      by-step r reads p steps.Unknown (f, g) i = absurd (none_some g)
      by-step r reads p (steps.Taken rev) (f, g) i = absurd (none_some g)

      go : (o : Option ConnectRequest) → read_connect bytes ≡ o → Opens (with_frame_counted hd.core bytes) hd.core.taken fresh w.clock s.mid s.first o → Acts w w' c
      go None reads i = shut-by (cause.NoHeader hd.core.taken) i
      go (Some r) reads (inl t) = shut-by (cause.Damaged t.key t.value) t.is
      go (Some r) reads (inr t) = by-step r reads t.new.phase t.step (t.steps).moves (subst (λ (y : Connect). Is (connected (with_frame_counted hd.core bytes) w.clock y t.step) s.mid s.first) (t.steps).same t.is)

  -- ---- in any stage

  at-rest : (core : Core) (st : Stage) (walker : Walker) (looked : ℕ) (f : Option Flight) → core.stage ≡ st → asked_of core.who st ≡ None → IsFlying w.store w.lines c core walker looked f → f ≡ None
  at-rest core st walker looked None e none k = refl
  at-rest core st walker looked (Some (Out a)) e none k = absurd (none_some (sym none ∙ ap (asked_of core.who) (sym e) ∙ k.asked))
  at-rest core st walker looked (Some (Carried a)) e none k = absurd (none_some (sym none ∙ ap (asked_of core.who) (sym e) ∙ k.out))
  at-rest core st walker looked (Some Denied) e none k = absurd (none_some (sym none ∙ ap (asked_of core.who) (sym e) ∙ k.1))

  resting-acts : (st : Stage) → hd.core.stage ≡ st → is_served st ≡ true → asked_of hd.core.who st ≡ None → Acts w w' c
  resting-acts st e served none =
      let v : is_served hd.core.stage ≡ true = ap is_served e ∙ served in
      let k2 = h.serving c hd.conn hd.core hd.found hd.serving v in
      idle-acts v (at-rest hd.core st k2.walker k2.looked hd.conn.flight e none k2.flies)

  by-stage : (st : Stage) → hd.core.stage ≡ st → Acts w w' c
  by-stage (Unconnected fresh) e = connect-acts fresh e
  by-stage (Connecting x) e = busy-acts (ap is_busy e)
  by-stage Ready e = resting-acts Ready e refl refl
  by-stage (KeepingAlive b) e = busy-acts (ap is_busy e)
  by-stage (Checking b) e = busy-acts (ap is_busy e)
  by-stage (Reading xid r v ws) e = busy-acts (ap is_busy e)
  by-stage (Committing xid r v p m) e = busy-acts (ap is_busy e)
  by-stage (Waiting p) e = resting-acts (Waiting p) e refl refl
  by-stage Shut e = absurd (true-false (sym (ap is_shut e) ∙ h.unshut c hd.conn hd.core hd.found hd.serving))

  pub frame-acts : Acts w w' c
  frame-acts = by-stage hd.core.stage refl
