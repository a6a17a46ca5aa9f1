-- What is known of a number stays known while lines that don't name it are added, and revisions.
use Rattle.std.proofs.lemmas.List.Elements.{Contains-append_left, Contains-append_right}
use Rattle.zp_script.specs.StepOutcomes.{StepOutcome, ends}
use Rattle.zk_service.specs.declared.cause.Ended.{Ended}
use Rattle.ev_types.specs.Store.{Store, present}
use Rattle.ev_types.specs.declared.answer.Answer.TheVariants as answer
use Rattle.ev_types.specs.declared.answer.Answer.{Answer}
use Rattle.ev_types.specs.declared.ask.Ask.{Ask}
use Rattle.std.proofs.Common.{Bool, List, [], ap, arith, false, inl, inr, length, pos, refl, subst, sym, true, ℕ, ℤ, ◌++◌, ◌+◌, ◌∙◌, ◌∷◌, ◌≡◌, ◌≢◌, ◌≤◌}
use Rattle.std.proofs.Math.Seq.{take-length}
use Rattle.std.proofs.lemmas.Int.{ints}
use Rattle.std.proofs.lemmas.List.Folds.{list_all-append}
use Rattle.std.proofs.lemmas.List.{length-append}
use Rattle.std.proofs.lemmas.Option.{slice_get_within}
use Rattle.std.specs.Ordering.{int_eq}
use Rattle.std.specs.Prelude.{Contains, None, Option, Some, if◌then◌else◌, not, slice_get, ◌≤ℤ◌, ◌⊎◌}
use Rattle.zk_model.specs.declared.connect.ConnectRequest.{ConnectRequest}
use Rattle.zk_transcript.proofs.Appending.{first_place-push}
use Rattle.zk_transcript.proofs.Attachments.{attach_of-push, attach_of-skip}
use Rattle.zk_transcript.proofs.Histories.{first_shown-push, legal-begun}
use Rattle.zk_transcript.proofs.Lookups.{slice_get-front}
use Rattle.zk_transcript.proofs.Walks.{state_at-push}
use Rattle.zk_transcript.proofs.Zxids.{zxid-covers}
use Rattle.zk_transcript.specs.Conversations.{close_shown}
use Rattle.zk_service.specs.States.{IsSound, State, session_at}
use Rattle.zk_transcript.specs.History.{after, first_place, first_shown, frame_shown, open_shown, state_at}
use Rattle.zk_transcript.specs.Legal.{attach_of, is_legal}
use Rattle.zk_transcript.specs.declared.transcript.TranscriptLine.TheVariants.{Update, Close}
use Rattle.zk_transcript.specs.declared.transcript.TranscriptLine.{TranscriptLine}
use Rattle.zk_service.specs.declared.update.UpdateKind.{UpdateKind}
use Rattle.zn_layout.specs.StandsFor.{StandsFor}
use Rattle.zn_layout.specs.declared.record.LeaseRec.{LeaseRec}
use Rattle.zn_view.specs.Asks.{plan_txn}
use Rattle.zp_script.specs.Worlds.{Actor, Closed, Conn, Connection, Reaper, World, conn_at, is_closed_actor, zxid_at}
use Rattle.zp_script.specs.declared.flight.Flight.TheVariants.{Carried, Denied, Out}
use Rattle.zp_script.specs.declared.flight.Flight.{Flight}
use Rattle.zp_laws.proofs.Growing.{frames-push as frames-longer}
use Rattle.zp_laws.proofs.Updates.{last-update}
use Rattle.zp_laws.specs.Inputs.{Precedes}
use Rattle.zp_step.specs.Stages.{Checking, Committing, Connecting, Core, KeepingAlive, Reading, Ready, Shut, Stage, Unconnected, Waiting}
use Rattle.zp_world_laws.proofs.Actions.{said}
use Rattle.zp_world_laws.proofs.Executing.{precedes-self}
use Rattle.zp_world_laws.proofs.Growing.{precedes-trans, reap-kept, was-kept}
use Rattle.zp_world_laws.proofs.Lines.{is_plain, plain-attach}
use Rattle.zp_world_laws.proofs.Naming.{attach-unnamed, close-none, elsewhere-unnamed, frame-none, never-opened}
use Rattle.zp_world_laws.proofs.Numbers.{either-number}
use Rattle.zp_world_laws.proofs.Serving.{Elsewhere, elsewhere-plain}
use Rattle.zp_world_laws.proofs.Talking.{first_place-front}
use Rattle.zp_world_laws.specs.Connecting.{HasOwnLine, IsConnectFlight, IsConnecting, IsInStage, IsOwnSession, IsSeenLife, IsUntouched, RestsOn}
use Rattle.zp_world_laws.specs.Connections.{IsClosedAt}
use Rattle.zp_world_laws.specs.Counting.{HasFrames, IsLined}
use Rattle.zp_world_laws.specs.Knowing.{IsKnownAs, Known, HasClose}
use Rattle.zp_world_laws.specs.Naming.{is_unnamed, names_conn}
use Rattle.zp_world_laws.specs.Reaping.{IsReapAsk, IsReapFlight, IsStanding}
use Rattle.zp_world_laws.specs.Serving.{kind_lines, update_lines}
use Rattle.zs_reap.specs.declared.reap.Phase.TheVariants as reaps
use Rattle.zs_reap.specs.declared.reap.Phase.TheVariants.{Counting, Removing}
use Rattle.zs_reap.specs.declared.reap.Phase.{Phase as ReapPhase}
use Rattle.zs_reap.specs.declared.reap.Reap.{Reap}
use Rattle.zs_session.specs.Connecting.{number_shown, timeout_in}
use Rattle.zs_session.specs.declared.connect.Connect.{Connect}
use Rattle.zk_service.specs.declared.fresh.Fresh.{Fresh}
use Rattle.zs_session.specs.declared.connect.Phase.TheVariants.{Attaching, Creating, Granting, Keeping, Looking, LookingAgain, Over, Unasked}
use Rattle.zs_session.specs.declared.connect.Phase.{Phase}
use Rattle.zx_base.proofs.Options.{none_some, some_is}
use Rattle.zx_base.proofs.Booleans.{and-both as both-true}

-- ---- zxids rise

pub zxid-rises : (lines more : List TranscriptLine) → is_legal lines ≡ true → is_legal (lines ++ more) ≡ true → (after lines).zxid ≤ℤ (after (lines ++ more)).zxid
zxid-rises lines more a b =
    let whole : state_at lines (length lines) ≡ after lines = ap after (take-length lines) in
    let u = last-update lines (length lines) a (subst (λ (s : State). 1 ≤ s.updates) (sym whole) (legal-begun lines a)) in
    let there : slice_get (lines ++ more) u.place ≡ Some (Update u.update) = slice_get-front lines more u.place (slice_get_within lines u.place (Update u.update) u.shown) ∙ u.shown in
    let le = zxid-covers (lines ++ more) u.place u.update b there in
    let same : (after lines).zxid ≡ (u.update).zxid = ap (λ (s : State). s.zxid) (sym whole) ∙ u.zxid in
    omega (arith, ints, le, same)

-- ---- its own lines and its frames

-- these lines open and close nothing of it, and show none of its frames
pub record AreAside (more : List TranscriptLine) (c : ℕ) : Type 0 where
  pub opens : first_shown (open_shown c) more ≡ None
  pub closes : (n : ℕ) → first_place (close_shown c) n more ≡ None
  pub frames : (i n : ℕ) → first_place (frame_shown c i) n more ≡ None

pub lined-aside : (lines more : List TranscriptLine) (c frames : ℕ) → AreAside more c → IsLined lines c frames → IsLined (lines ++ more) c frames
lined-aside lines more c frames h k = record {
  offer = k.offer;
  opened = first_shown-push (open_shown c) lines more k.offer k.opened;
  unended = first_place-front (close_shown c) 0 lines more h.closes ∙ k.unended;
  to_come = λ i le. first_place-front (frame_shown c i) 0 lines more (h.frames i) ∙ k.to_come i le;
}

pub counted-aside : (lines more : List TranscriptLine) (c frames : ℕ) (core : Core) → AreAside more c → HasFrames lines c frames core → HasFrames (lines ++ more) c frames core
counted-aside lines more c frames core h k = record { lined = lined-aside lines more c frames h k.lined; numbered = k.numbered; came = k.came; most = k.most; rested = k.rested }

pub unnamed-aside : (more : List TranscriptLine) (c : ℕ) → is_unnamed c more ≡ true → AreAside more c
unnamed-aside more c h = record { opens = never-opened c more h; closes = λ n. close-none c n more h; frames = λ i n. frame-none c i n more h }

-- an update is none of these
pub update-aside : (s u : Store) (kind : Option UpdateKind) (c : ℕ) → AreAside (update_lines s u kind) c
update-aside s u kind c = go (int_eq (zxid_at s) (zxid_at u)) kind
  where
    none-aside : AreAside [] c
    none-aside = record { opens = refl; closes = λ n. refl; frames = λ i n. refl }

    go : (b : Bool) (o : Option UpdateKind) → AreAside (if b then [] else kind_lines u o) c
    go true o = none-aside
    go false None = none-aside
    go false (Some k) = record { opens = refl; closes = λ n. refl; frames = λ i n. refl }

pub said-aside : (d : ℕ) (ps : List (List ℕ)) (c : ℕ) → AreAside (said d ps) c
said-aside d [] c = record { opens = refl; closes = λ n. refl; frames = λ i n. refl }
said-aside d (p ∷ ps) c = let k = said-aside d ps c in record { opens = k.opens; closes = λ n. k.closes (n + 1); frames = λ i n. k.frames i (n + 1) }

-- ---- before it has a session

untouched-push : (lines more : List TranscriptLine) (c : ℕ) (fresh : Fresh) → Elsewhere lines more c → IsUntouched lines c fresh → IsUntouched (lines ++ more) c fresh
untouched-push lines more c fresh h k = record {
  silent = h.packets ∙ k.silent;
  turn = h.below 1 k.turn;
  offered = first_shown-push (open_shown c) lines more fresh k.offered;
  offer = k.offer;
}

seen-push : (s u : Store) (r : ConnectRequest) (seen : ℤ) (life : LeaseRec) → Precedes s u → IsSeenLife s r seen life → IsSeenLife u r seen life
seen-push s u r seen life x k = record { session = k.session; put = k.put; within = k.within; passwd = k.passwd; was = was-kept s u r.session seen life x k.was }

pub rests-push : (s u : Store) (y z : ℤ) (r : ConnectRequest) (p : Phase) → Precedes s u → y ≤ℤ z → RestsOn s y r p → RestsOn u z r p
rests-push s u y z r Unasked x le k = k
rests-push s u y z r Looking x le k = k
rests-push s u y z r Granting x le (a, b) = (a, omega (arith, ints, le, b))
rests-push s u y z r Creating x le (a, b) = (a, omega (arith, ints, le, b))
rests-push s u y z r (Keeping seen life) x le (a, b) = (seen-push s u r seen life x a, omega (arith, ints, le, b))
rests-push s u y z r LookingAgain x le (a, b) = (a, omega (arith, ints, le, b))
rests-push s u y z r (Attaching seen life) x le (a, b) = (seen-push s u r seen life x a, omega (arith, ints, le, b))
rests-push s u y z r Over x le k = k

session-push : (lines more : List TranscriptLine) (c : ℕ) (id timeout : ℤ) (passwd : List ℕ) (zxid number : ℤ) → IsOwnSession lines c id timeout passwd zxid number → IsOwnSession (lines ++ more) c id timeout passwd zxid number
session-push lines more c id timeout passwd zxid number k =
    let within = slice_get_within lines k.place (Update k.update) k.shown in
    let later = state_at-push lines more (k.place + 1) (omega (arith, within)) in
    record {
      least = k.least;
      most = k.most;
      rises = k.rises;
      place = k.place;
      attached = attach_of-push lines more c (k.place, record { zxid = zxid; session = id }) k.attached;
      update = k.update;
      shown = slice_get-front lines more k.place within ∙ k.shown;
      same = k.same;
      counted = k.counted ∙ ap (λ (s : State). pos s.updates) (sym later);
      session = k.session;
      there = ap (session_at id) later ∙ k.there;
      timeout_is = k.timeout_is;
      passwd_is = k.passwd_is;
    }

own-push : (lines more : List TranscriptLine) (c : ℕ) (x : Connect) (p : Phase) (a : Answer) → attach_of c (lines ++ more) ≡ attach_of c lines → HasOwnLine lines c x p a → HasOwnLine (lines ++ more) c x p a
own-push lines more c x Creating (answer.Txn r true parts) h k = session-push lines more c x.fresh.id (timeout_in x) x.fresh.passwd r (number_shown parts) k
own-push lines more c x Creating (answer.Txn r false parts) h k = h ∙ k
own-push lines more c x Creating (answer.Range r f) h k = h ∙ k
own-push lines more c x Creating (answer.Granted r i t) h k = h ∙ k
own-push lines more c x Creating (answer.Alive r i t) h k = h ∙ k
own-push lines more c x (Attaching seen life) (answer.Txn r true parts) h k = session-push lines more c x.request.session life.timeout life.passwd r (number_shown parts) k
own-push lines more c x (Attaching seen life) (answer.Txn r false parts) h k = h ∙ k
own-push lines more c x (Attaching seen life) (answer.Range r f) h k = h ∙ k
own-push lines more c x (Attaching seen life) (answer.Granted r i t) h k = h ∙ k
own-push lines more c x (Attaching seen life) (answer.Alive r i t) h k = h ∙ k
own-push lines more c x Unasked a h k = h ∙ k
own-push lines more c x Looking a h k = h ∙ k
own-push lines more c x Granting a h k = h ∙ k
own-push lines more c x (Keeping seen life) a h k = h ∙ k
own-push lines more c x LookingAgain a h k = h ∙ k
own-push lines more c x Over a h k = h ∙ k

-- the transcript and the store grow, by no update of c and no packet for it
pub record GrowsBeside (s u : Store) (lines more : List TranscriptLine) (c : ℕ) : Type 0 where
  pub longer : Precedes s u
  pub legal : is_legal lines ≡ true
  pub still_legal : is_legal (lines ++ more) ≡ true
  pub elsewhere : Elsewhere lines more c
  pub attach : attach_of c (lines ++ more) ≡ attach_of c lines

pub grows-unnamed : (s u : Store) (lines more : List TranscriptLine) (c : ℕ) → Precedes s u → is_legal lines ≡ true → is_legal (lines ++ more) ≡ true → is_unnamed c more ≡ true → GrowsBeside s u lines more c
grows-unnamed s u lines more c x a b h = record { longer = x; legal = a; still_legal = b; elsewhere = elsewhere-unnamed lines more c h; attach = attach-unnamed c lines more h }

-- a line that is neither update nor packet
pub grows-plain : (s : Store) (lines : List TranscriptLine) (l : TranscriptLine) (c : ℕ) → is_legal lines ≡ true → is_legal (lines ++ l ∷ []) ≡ true → is_plain l ≡ true → GrowsBeside s s lines (l ∷ []) c
grows-plain s lines l c a b h = record { longer = precedes-self s; legal = a; still_legal = b; elsewhere = elsewhere-plain lines c l h; attach = attach_of-skip lines l c (plain-attach c l h) }

module _ (s u : Store) (lines more : List TranscriptLine) (c : ℕ) (g : GrowsBeside s u lines more c) where
  connect-flies : (place : ℕ) (x : Connect) (f : Option Flight) → IsConnectFlight s lines c place x f → IsConnectFlight u (lines ++ more) c place x f
  connect-flies place x None k = k
  connect-flies place x (Some (Out a)) k = record { asked = k.asked; kind = k.kind; rests = rests-push s u (after lines).zxid (after (lines ++ more)).zxid x.request x.phase g.longer (zxid-rises lines more g.legal g.still_legal) k.rests; unattached = g.attach ∙ k.unattached }
  connect-flies place x (Some (Carried a)) k =
      let later = state_at-push lines more k.looked k.within in
      record {
        asked = k.asked;
        out = k.out;
        before = k.before;
        then_store = k.then_store;
        carried_out = k.carried_out;
        is = precedes-trans k.then_store s u k.is g.longer;
        looked = k.looked;
        passed = k.passed;
        within = omega (arith, k.within, length-append lines more);
        risen = (let up = zxid-rises lines more g.legal g.still_legal in let same = ap (λ (t : State). t.zxid) later in omega (arith, ints, k.risen, up, same));
        stands = subst (StandsFor (present k.then_store)) (sym later) k.stands;
        sound = subst IsSound (sym later) k.sound;
        rests = subst (λ (t : State). RestsOn k.then_store t.zxid x.request x.phase) (sym later) k.rests;
        own = own-push lines more c x x.phase a g.attach k.own;
      }
  connect-flies place x (Some Denied) k = g.attach ∙ k

  pub connecting-push : (core : Core) (x : Connect) (f : Option Flight) → IsConnecting s lines c core x f → IsConnecting u (lines ++ more) c core x f
  connecting-push core x f k = record {
    untouched = untouched-push lines more c x.fresh g.elsewhere k.untouched;
    next = k.next;
    waiting = frames-longer lines more c 1 core.waiting k.waiting;
    place = k.place;
    bytes = k.bytes;
    framed = first_place-push (frame_shown c 0) 0 lines more (k.place, k.bytes) k.framed;
    reads = k.reads;
    flies = connect-flies k.place x f k.flies;
  }

  pub stage-push : (core : Core) (f : Option Flight) (st : Stage) → IsInStage s lines c core f st → IsInStage u (lines ++ more) c core f st
  stage-push core f (Unconnected fresh) (k, none) = (record { untouched = untouched-push lines more c fresh g.elsewhere k.untouched; unattached = g.attach ∙ k.unattached; none_waits = k.none_waits }, none)
  stage-push core f (Connecting x) k = connecting-push core x f k
  stage-push core f Ready k = tt
  stage-push core f (KeepingAlive b) k = tt
  stage-push core f (Checking b) k = tt
  stage-push core f (Reading xid r v ws) k = tt
  stage-push core f (Committing xid r v p m) k = tt
  stage-push core f (Waiting p) k = tt
  stage-push core f Shut k = tt

-- ---- a reaper

abbrev pub standing-push : (s u : Store) (z : ℤ) → Precedes s u → IsStanding s z → IsStanding u z
standing-push s u z x k = record { number = k.number; is = k.is; begun = k.begun; known = omega (arith, k.known, x.longer); state = k.state; stands = subst (λ m. StandsFor m k.state) (sym (x.same k.number k.known)) k.stands }

pub reap-ask-push : (s u : Store) (id : ℤ) (p : ReapPhase) (a : Ask) → Precedes s u → IsReapAsk s id p a → IsReapAsk u id p a
reap-ask-push s u id reaps.Unasked a x k = k
reap-ask-push s u id reaps.Looking a x k = k
reap-ask-push s u id (Counting r ws) a x (st, e) = (standing-push s u r x st, e)
reap-ask-push s u id (Removing again) a x (p, e, is, b) = (p, e, is, reap-kept s u id (plan_txn p) x b)
reap-ask-push s u id reaps.Over a x k = k

pub reap-flies : (s u : Store) (r : Reap) (f : Option Flight) → Precedes s u → IsReapFlight s r f → IsReapFlight u r f
reap-flies s u r None x k = k
reap-flies s u r (Some (Out a)) x k = record { asked = reap-ask-push s u r.session r.phase a.ask x k.asked; kind = k.kind }
reap-flies s u r (Some (Carried a)) x k = record { asked = k.asked; before = k.before; then_store = k.then_store; carried_out = k.carried_out; out = k.out; was = precedes-trans k.before s u k.was x; is = precedes-trans k.then_store s u k.is x; begun = k.begun; state = k.state; stands = k.stands }
reap-flies s u r (Some Denied) x k = k

-- ---- one that has ended

pub close-left : (lines more : List TranscriptLine) (c : ℕ) → HasClose lines c → HasClose (lines ++ more) c
close-left lines more c (end, there) = (end, Contains-append_left lines more (Close c end) there)

pub close-last : (lines : List TranscriptLine) (c : ℕ) (end : Ended) → Contains (lines ++ Close c end ∷ []) (Close c end)
close-last lines c end = Contains-append_right lines (Close c end ∷ []) (Close c end) (0, omega arith, refl)

-- its end puts its line there, after those that are said with it
pub close-ends : (lines : List TranscriptLine) (c : ℕ) (rest : List TranscriptLine) (end : Ended) (o : StepOutcome) → HasClose (lines ++ (ends c rest end o).lines) c
close-ends lines c rest end o = (end, Contains-append_right lines ((o.lines ++ rest) ++ Close c end ∷ []) (Close c end) (close-last (o.lines ++ rest) c end))

-- ---- any number

pub known-push : (s u : Store) (lines more : List TranscriptLine) (c : ℕ) (x : Conn) (a : Actor) → GrowsBeside s u lines more c → AreAside more c → IsKnownAs s lines c x a → IsKnownAs u (lines ++ more) c x a
known-push s u lines more c x (Connection core) g aside (n, st) = (counted-aside lines more c x.frames core aside n, stage-push s u lines more c g core x.flight core.stage st)
known-push s u lines more c x (Reaper r) g aside k = reap-flies s u r x.flight g.longer k
known-push s u lines more c x Closed g aside k = close-left lines more c k

closed-push : (s u : Store) (lines more : List TranscriptLine) (c : ℕ) (x : Conn) (a : Actor) → is_closed_actor a ≡ true → IsKnownAs s lines c x a → IsKnownAs u (lines ++ more) c x a
closed-push s u lines more c x (Connection core) h k = absurd (cc)
closed-push s u lines more c x (Reaper r) h k = absurd (cc)
closed-push s u lines more c x Closed h k = close-left lines more c k

unnamed-append : (c : ℕ) (lines more : List TranscriptLine) → is_unnamed c lines ≡ true → is_unnamed c more ≡ true → is_unnamed c (lines ++ more) ≡ true
unnamed-append c lines more a b = list_all-append (λ l. not (names_conn c l)) lines more ∙ both-true (is_unnamed c lines) (is_unnamed c more) a b

-- ---- a world in which one connection acts

-- the others are as they were, and the lines that are added name none that is open
pub record ActsAlone (w w' : World) (c : ℕ) (more : List TranscriptLine) : Type 0 where
  pub longer : Precedes w.store w'.store
  pub legal : is_legal w.lines ≡ true
  pub still_legal : is_legal w'.lines ≡ true
  pub lines : w'.lines ≡ w.lines ++ more
  pub others : (d : ℕ) → d ≢ c → conn_at d w' ≡ conn_at d w
  pub unnamed : (d : ℕ) → d ≢ c → IsClosedAt w d ⊎ (is_unnamed d more ≡ true)

module _ (w w' : World) (c : ℕ) (more : List TranscriptLine) (h : Known w) (a : ActsAlone w w' c more) where
  grows : (d : ℕ) → is_unnamed d more ≡ true → GrowsBeside w.store w'.store w.lines more d
  grows d n = grows-unnamed w.store w'.store w.lines more d a.longer a.legal (subst (λ l. is_legal l ≡ true) a.lines a.still_legal) n

  other-used : (d : ℕ) (x : Conn) → d ≢ c → conn_at d w' ≡ Some x → IsKnownAs w'.store w'.lines d x x.actor
  other-used d x apart e = elim (a.unnamed d apart) [
    | inl t ↦ subst (λ l. IsKnownAs w'.store l d x x.actor) (sym a.lines) (closed-push w.store w'.store w.lines more d x x.actor (ap (λ (y : Conn). is_closed_actor y.actor) (some_is (sym e ∙ a.others d apart ∙ t.1)) ∙ t.2) (h.used d x (sym (a.others d apart) ∙ e)))
    | inr n ↦ subst (λ l. IsKnownAs w'.store l d x x.actor) (sym a.lines) (known-push w.store w'.store w.lines more d x x.actor (grows d n) (unnamed-aside more d n) (h.used d x (sym (a.others d apart) ∙ e)))
  ]

  other-unused : (d : ℕ) → d ≢ c → conn_at d w' ≡ None → is_unnamed d w'.lines ≡ true
  other-unused d apart e = elim (a.unnamed d apart) [
    | inl t ↦ absurd (none_some (sym (sym (a.others d apart) ∙ e) ∙ t.1))
    | inr n ↦ subst (λ l. is_unnamed d l ≡ true) (sym a.lines) (unnamed-append d w.lines more (h.unused d (sym (a.others d apart) ∙ e)) n)
  ]

  -- where c is known anew
  pub known-alone : ((x : Conn) → conn_at c w' ≡ Some x → IsKnownAs w'.store w'.lines c x x.actor) → (conn_at c w' ≡ None → is_unnamed c w'.lines ≡ true) → Known w'
  known-alone here none = record {
    used = λ d x e. elim (either-number d c) [
      | inl same ↦ subst (λ n. IsKnownAs w'.store w'.lines n x x.actor) (sym same) (here x (ap (λ n. conn_at n w') (sym same) ∙ e))
      | inr apart ↦ other-used d x apart e
    ];
    unused = λ d e. elim (either-number d c) [
      | inl same ↦ subst (λ n. is_unnamed n w'.lines ≡ true) (sym same) (none (ap (λ n. conn_at n w') (sym same) ∙ e))
      | inr apart ↦ other-unused d apart e
    ];
  }

-- ---- a world in which none acts

pub record ActsNone (w w' : World) (more : List TranscriptLine) : Type 0 where
  pub longer : Precedes w.store w'.store
  pub legal : is_legal w.lines ≡ true
  pub still_legal : is_legal w'.lines ≡ true
  pub lines : w'.lines ≡ w.lines ++ more
  pub all : (d : ℕ) → conn_at d w' ≡ conn_at d w
  pub unnamed : (d : ℕ) → IsClosedAt w d ⊎ (is_unnamed d more ≡ true)

pub known-none : (w w' : World) (more : List TranscriptLine) → Known w → ActsNone w w' more → Known w'
known-none w w' more h a = record { used = used; unused = unused }
  where
    -- Nobody acts, so any number may be taken for the one that does. A number is known if one next to it is taken.
    alone : (c : ℕ) → ActsAlone w w' c more
    alone c = record { longer = a.longer; legal = a.legal; still_legal = a.still_legal; lines = a.lines; others = λ d apart. a.all d; unnamed = λ d apart. a.unnamed d }

    next-apart : (d : ℕ) → d ≢ d + 1
    next-apart d e = omega (arith, e)

    used : (d : ℕ) (x : Conn) → conn_at d w' ≡ Some x → IsKnownAs w'.store w'.lines d x x.actor
    used d x e = other-used w w' (d + 1) more h (alone (d + 1)) d x (next-apart d) e

    unused : (d : ℕ) → conn_at d w' ≡ None → is_unnamed d w'.lines ≡ true
    unused d e = other-unused w w' (d + 1) more h (alone (d + 1)) d (next-apart d) e
