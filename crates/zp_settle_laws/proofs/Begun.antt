-- Nothing that an open connection with a session has at work ends it, where its session lives and its frames are mild.
use Rattle.std.proofs.Common.{◌≡◌, ℕ, ◌+◌, ◌<◌, ◌≤◌, List, [], ◌∷◌, drop, length, take, take-append-drop, refl, sym, ap, ◌∙◌, subst, arith, Bool, true, false, ℤ}
use Rattle.std.specs.Prelude.{Option, Some, None, ◌==◌, if◌then◌else◌, is_some, slice_get}
use Rattle.std.proofs.lemmas.Bool.{and_parts}
use Rattle.std.proofs.lemmas.Bool.Decides.{nat_tests}
use Rattle.ev_types.specs.Store.{Store}
use Rattle.zk_jute.specs.Requests.{Frame, Asks, read_request}
use Rattle.zk_least.proofs.FirstPlaces.{first_place-at}
use Rattle.zk_model.specs.Watches.{Watches, no_watches}
use Rattle.zk_model.specs.declared.reply.Reply.{Reply}
use Rattle.zk_model.specs.declared.request.Request.{Request}
use Rattle.zk_transcript.proofs.Attachments.{NoneAfter}
use Rattle.zk_transcript.proofs.Placed.{first_place-shown, is_legal-at}
use Rattle.zk_service.specs.Answers.{Told, owned_limit_in, plain_reply, session_refusal}
use Rattle.zk_transcript.specs.History.{after, frame_shown, state_at}
use Rattle.zk_service.specs.States.{session_at}
use Rattle.zk_transcript.specs.Legal.{is_legal, is_next_zxid, may_update}
use Rattle.zk_transcript.specs.Walks.{at_start, closes_session, looked as looks_told, own_update, own_update_in, own_update_shown, response_at, seen_told, told_as_of, told_response, with_end}
use Rattle.zk_service.specs.declared.cause.Cause.{Cause}
use Rattle.zk_transcript.specs.declared.transcript.TranscriptLine.{TranscriptLine}
use Rattle.zk_transcript.specs.declared.transcript.TranscriptLine.TheVariants.{Update, Open, Frame as FrameLine, Send, Lapse, Close}
use Rattle.zk_service.specs.declared.update.UpdateKind.{UpdateKind}
use Rattle.zk_service.specs.declared.update.UpdateKind.TheVariants.{Begin, Session as NewSession, Attach, Asked, Closed, Reaped}
use Rattle.zk_service.specs.declared.update.UpdateRec.{UpdateRec}
use Rattle.zn_view.specs.Views.{live}
use Rattle.zx_base.proofs.Options.{none_some, some_is}
use Rattle.zp_laws.proofs.Attached.{here-served}
use Rattle.zp_laws.proofs.Deciding.{attached-then}
use Rattle.zp_laws.proofs.WalkMoves.{walk-next}
use Rattle.zp_laws.specs.Frames.{AreFrames, IsAtWork, IsFrameAt}
use Rattle.zp_step.specs.Stages.{is_served, waits_from, Core, Pending, Stage, Unconnected, Connecting, Ready, KeepingAlive, Checking, Reading, Committing, Waiting, Shut}
use Rattle.zp_laws.specs.Standing.{IsReply, Knows}
use Rattle.zp_script.specs.declared.flight.Flight.{Flight}
use Rattle.zp_world_laws.proofs.Numbers.{number-same}
use Rattle.zp_world_laws.specs.Bounds.{attachment}
use Rattle.zp_world_laws.specs.Connections.{IsServingConn}
use Rattle.zp_settle_laws.proofs.Sessions.{close-frame, held-at, may-close, mild-front, placed-mild, when-both}
use Rattle.zp_settle_laws.specs.Staying.{AreLasting, IsLasting, IsLastingIn, closes_after, is_close, refuses}
use Rattle.zp_settle_laws.specs.Undisturbed.{HasMildFrames, takes_session}
use Rattle.zx_base.proofs.Booleans.{or-split as or-both, true-not_false as true-false}

-- ---- frames that wait

pub waiting-lasting : (lines : List TranscriptLine) (c i : ℕ) (fs : List (List ℕ)) → HasMildFrames c lines → 1 ≤ i → AreFrames lines c i fs → AreLasting fs
waiting-lasting lines c i [] mild least h = tt
waiting-lasting lines c i (f ∷ fs) mild least (at, more) = ((placed-mild c i at.place lines f mild at.framed least).1, waiting-lasting lines c (i + 1) fs mild (omega (arith, least)) more)

none-is : (o : Option Cause) → is_some o ≡ false → o ≡ None
none-is None h = refl
none-is (Some why) h = absurd (true-false h)

-- ---- what is told, and whether it is the end

with_end-is : (over : Bool) (o : Option Told) (b : Bool) (t : Told) → with_end over o ≡ Some (b, t) → over ≡ b
with_end-is over None b t h = absurd (none_some h)
with_end-is over (Some x) b t h = ap (λ (p : Bool × Told). p.0) (some_is h)

module _ (s : Store) (lines : List TranscriptLine) (c : ℕ) (core : Core) (flight : Option Flight) (legal : is_legal lines ≡ true) (k : IsServingConn s lines c core flight) (kept : NoneAfter (takes_session core.who.session) k.place lines) (mild : HasMildFrames c lines) where
  front-mild : (n : ℕ) → HasMildFrames c (take n lines)
  front-mild n = mild-front c (take n lines) (drop n lines) (subst (HasMildFrames c) (sym (take-append-drop n lines)) mild)

  since : 1 ≤ core.next
  since =
      let t = k.talks in
      let le = walk-next lines c core.who.session (at_start core.who.mine (k.place + 1)) t.choices (k.walker, t.due) t.walked in
      omega (arith, le, ((k.stands).matches).next)

  -- ---- a reply that waits

  -- no update of its closes its session
  own-not : (i place : ℕ) (z : ℤ) (kind : UpdateKind) (u : UpdateRec) → slice_get lines place ≡ Some (Update (record { zxid = z; kind = kind })) → own_update_in c i (record { zxid = z; kind = kind }) kind ≡ Some u → closes_session u.kind ≡ false
  own-not i place z (Asked d j now) u at h = ap (λ (v : UpdateRec). closes_session v.kind) (sym (when-both (c == d) (i == j) (record { zxid = z; kind = Asked d j now }) u h).2)
  own-not i place z (Closed id d j) u at h =
      let w = when-both (c == d) (i == j) (record { zxid = z; kind = Closed id d j }) u h in
      let may = (and_parts (may_update (take place lines) (state_at lines place) z (Closed id d j)) (is_next_zxid (state_at lines place) z) (is_legal-at lines place (Update (record { zxid = z; kind = Closed id d j })) legal at)).0 in
      let m = may-close (take place lines) (state_at lines place) z id d j may in
      let f = close-frame d j (take place lines) m.closes in
      let p = first_place-shown (frame_shown d j) 0 (take place lines) f.0 f.1 in
      let above : 1 ≤ j = grind (arith, nat_tests, m.index) in
      absurd (true-false (sym f.2 ∙ (placed-mild d j p.0 (take place lines) f.0 (subst (λ n. HasMildFrames n (take place lines)) (number-same c d w.0) (front-mild place)) p.1 above).1))
  own-not i place z (Begin now) u at h = absurd (none_some h)
  own-not i place z (NewSession id d) u at h = absurd (none_some h)
  own-not i place z (Attach id d) u at h = absurd (none_some h)
  own-not i place z (Reaped id) u at h = absurd (none_some h)

  line-not : (i place : ℕ) (l : TranscriptLine) (u : UpdateRec) → slice_get lines place ≡ Some l → own_update_shown c i l ≡ Some u → closes_session u.kind ≡ false
  line-not i place (Update v) u at h = own-not i place v.zxid v.kind u at h
  line-not i place (FrameLine d j z b) u at h = absurd (none_some h)
  line-not i place (Open d p id pw layout) u at h = absurd (none_some h)
  line-not i place (Send d b) u at h = absurd (none_some h)
  line-not i place (Lapse r id) u at h = absurd (none_some h)
  line-not i place (Close d e) u at h = absurd (none_some h)

  -- nor does its session's state refuse it
  not-refused : (p : Pending) → (r : IsReply lines c core.who k.walker p k.looked) → session_refusal c (session_at core.who.session (state_at lines k.looked)) ≡ None
  not-refused p r =
      let place : k.place ≡ (r.moment).place = ap (λ (o : ℕ × _). o.0) (some_is (sym k.attached ∙ (r.moment).attached)) in
      let lt : k.place < k.looked = omega (arith, place, (r.moment).since) in
      let a = attached-then lines c core k.walker k.looked legal k.least (k.stands).matches r.moment in
      let h = held-at lines c k.place (attachment core.who) legal k.attached k.least kept mild k.looked lt in
      here-served lines c core.who k.looked a h.session (ap live h.there ∙ ap (λ b. if b then None else Some h.session) h.alive) h.mine

  told-not : (past : List TranscriptLine) (x : Frame) (w : Watches) (o : Option (ℕ × UpdateRec)) (b : Bool) (t : Told) → told_as_of past c core.who.session x w o ≡ Some (b, t) → ((u : ℕ × UpdateRec) → o ≡ Some u → closes_session u.1.kind ≡ false)
      → session_refusal c (session_at core.who.session (after past)) ≡ None → b ≡ false
  unfolding told_as_of
  told-not past x w (Some u) b t h own state = go (length past == u.0 + 1) h
    where
      go : (q : Bool) → (if q then with_end (closes_session u.1.kind) (told_response w (response_at past u.0 u.1.zxid u.1.kind)) else None) ≡ Some (b, t) → b ≡ false
      go true g = sym (with_end-is (closes_session u.1.kind) (told_response w (response_at past u.0 u.1.zxid u.1.kind)) b t g) ∙ own u refl
      go false g = absurd (none_some g)
  told-not past x w None b t h own state = go (session_refusal c (session_at core.who.session (after past))) state h
    where
      go : (q : Option Reply) → q ≡ None → seen_told (after past) (owned_limit_in (session_at core.who.session (after past))) core.who.session x w q ≡ Some (b, t) → b ≡ false
      go None e g = sym (with_end-is false (looks_told (after past) (owned_limit_in (session_at core.who.session (after past))) core.who.session w x (plain_reply w x)) b t g)
      go (Some r) e g = absurd (none_some (sym e))

  reply-lasts : (p : Pending) → IsReply lines c core.who k.walker p k.looked → p.ends ≡ None
  reply-lasts p r = none-is p.ends (told-not (take k.looked lines) (read_request r.bytes) no_watches (own_update c (k.walker).next lines) (is_some p.ends) _ (r.told no_watches) own (not-refused p r))
    where
      own : (u : ℕ × UpdateRec) → own_update c (k.walker).next lines ≡ Some u → closes_session u.1.kind ≡ false
      own u e = let f = first_place-at (own_update_shown c (k.walker).next) 0 lines u e in line-not (k.walker).next f.place f.line u.1 f.there f.shown

  -- ---- the stage

  asked-mild : (xid : ℤ) (r : Request) (bytes : List ℕ) → read_request bytes ≡ Asks xid r → closes_after (read_request bytes) ≡ false → is_close r ≡ false
  asked-mild xid r bytes e h = (or-both (is_close r) (refuses (plain_reply no_watches (Asks xid r))) (ap closes_after (sym e) ∙ h)).0

  frame-mild : (bytes : List ℕ) → IsFrameAt lines c core.next bytes → closes_after (read_request bytes) ≡ false
  frame-mild bytes f = (placed-mild c core.next f.place lines bytes mild f.framed since).1

  stage-lasts : (st : Stage) → is_served st ≡ true → IsAtWork lines c core.next st → Knows s lines c core k.walker k.looked st → IsLastingIn st
  stage-lasts (Unconnected fresh) served work h = absurd (true-false (sym served))
  stage-lasts (Connecting x) served work h = absurd (true-false (sym served))
  stage-lasts Shut served work h = absurd (true-false (sym served))
  stage-lasts Ready served work h = tt
  stage-lasts (KeepingAlive f) served work h = frame-mild f work
  stage-lasts (Checking f) served work h = frame-mild f work
  stage-lasts (Reading xid r v ws) served work h = asked-mild xid r work.bytes work.reads (frame-mild work.bytes work.frame)
  stage-lasts (Committing xid r v p m) served work h = asked-mild xid r work.bytes work.reads (frame-mild work.bytes work.frame)
  stage-lasts (Waiting p) served work h = reply-lasts p h.0

  pub waits-least : (st : Stage) → is_served st ≡ true → 1 ≤ waits_from st core.next
  waits-least (Unconnected fresh) served = absurd (true-false (sym served))
  waits-least (Connecting x) served = absurd (true-false (sym served))
  waits-least Shut served = absurd (true-false (sym served))
  waits-least Ready served = since
  waits-least (KeepingAlive f) served = omega arith
  waits-least (Checking f) served = omega arith
  waits-least (Reading xid r v ws) served = omega arith
  waits-least (Committing xid r v p m) served = omega arith
  waits-least (Waiting p) served = omega arith

  pub serving-lasts : is_served core.stage ≡ true → IsLasting core
  serving-lasts served = record {
    work = stage-lasts core.stage served (k.stands).work (k.stands).knows;
    waiting = waiting-lasting lines c (waits_from core.stage core.next) core.waiting mild (waits-least core.stage served) (k.stands).waiting;
  }
