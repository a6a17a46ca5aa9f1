-- What a walk gives is notices and one reply to each frame that it passes; a settled connection's walk has passed them all, and the
-- first packet is the welcome.
use Rattle.std.proofs.Common.{◌≡◌, ℕ, zero, suc, ◌+◌, ◌≤◌, List, [], ◌∷◌, ◌++◌, length, take, refl, sym, ap, ◌∙◌, subst, arith, append_assoc, Bool, true, false, ℤ, inl, inr}
use Rattle.std.specs.Prelude.{Option, Some, None, option_and_then, ◌&&◌, ◌⊎◌, All, map, nat_le, bytes_eq, drop}
use Rattle.std.proofs.lemmas.Bool.{and_parts}
use Rattle.std.proofs.lemmas.List.{map-append}
use Rattle.std.proofs.lemmas.List.Elements.{All-nil, All-cons, All-append}
use Rattle.std.proofs.lemmas.Slice.Eq.{bytes_eq-Decides}
use Rattle.zk_jute.specs.Packets.{notice_packet, reply_packet}
use Rattle.zk_jute.specs.Connects.{read_connect}
use Rattle.zk_jute.specs.Requests.{read_request}
use Rattle.zk_model.specs.Watches.{Watches, fire_all, is_unarmed}
use Rattle.zk_model.specs.declared.connect.ConnectRequest.{ConnectRequest}
use Rattle.zk_model.specs.declared.reply.Notice.{Notice}
use Rattle.zk_transcript.proofs.Longer.{if_Some, then_Some, then_due-next}
use Rattle.zk_transcript.proofs.Placed.{first_place-shown}
use Rattle.zk_service.specs.Answers.{Told, plain_reply, xid_of, welcome, has_header}
use Rattle.zk_transcript.specs.Conversations.{IsConnectAnswered, IsWelcomed}
use Rattle.zk_service.specs.States.{Session, session_at}
use Rattle.zk_transcript.specs.History.{after, frame, frame_shown, state_at}
use Rattle.zk_transcript.specs.Legal.{Attachment, attach_of}
use Rattle.zk_transcript.specs.Walks.{Answer, Choice, Due, Plain, Tell, Walker, after_update, answer_as_of, answer_plainly, are_sent, at_start, due_notices, fired_above, fired_at, fired_from, is_above, later_of, may_answer_at, move, next_update, own_update, packets, placed_frame, plain_answer, reply_step_if, then_due, then_fired, told_update, walk}
use Rattle.zk_transcript.specs.declared.transcript.TranscriptLine.{TranscriptLine}
use Rattle.zk_service.specs.declared.update.UpdateRec.{UpdateRec}
use Rattle.zx_base.proofs.Options.{none_some, some_is}
use Rattle.zp_step.specs.Stages.{Core, Stage, Unconnected, Connecting, Ready, KeepingAlive, Checking, Reading, Committing, Waiting, Shut, is_served, waits_from}
use Rattle.zp_laws.proofs.WalkMoves.{walk-next}
use Rattle.zp_script.specs.Happens.{max_settling}
use Rattle.zp_script.specs.Worlds.{Actor, Closed, Conn, Connection, Reaper, World, conn_at}
use Rattle.zp_world_laws.proofs.Arrivals.{core-of}
use Rattle.zp_world_laws.proofs.Lives.{known-at}
use Rattle.zp_world_laws.proofs.Running.{every-run-accounted}
use Rattle.zp_world_laws.proofs.Settled.{settled-idle}
use Rattle.zp_world_laws.specs.Accounting.{IsAccounted}
use Rattle.zp_world_laws.specs.Bounds.{attachment}
use Rattle.zp_world_laws.specs.Connecting.{IsInStage}
use Rattle.zp_world_laws.specs.Counting.{HasFrames}
use Rattle.zp_world_laws.specs.Knowing.{HasClose}
use Rattle.zp_world_laws.specs.Settled.{IsAnswered, IsIdle}
use Rattle.zp_settle_laws.proofs.Bytes.{first-counts, runs-counts}
use Rattle.zp_settle_laws.proofs.Ending.{settles-to}
use Rattle.zp_settle_laws.proofs.Enough.{lines-enough}
use Rattle.zp_settle_laws.specs.Answering.{AreAnswers, AreReplies, EverySettleAnswers, IsAllAnswered, IsConnectAnswer, IsNotice, IsReplyTo}

abbrev sent : List Due → List (List ℕ)
sent ds = map (λ (d : Due). d.1) ds

-- ---- notices

notices-are : (k : ℕ) (ns : List Notice) → All IsNotice (sent (due_notices k ns))
notices-are k [] = All-nil IsNotice
notices-are k (n ∷ ns) = All-cons IsNotice (notice_packet n) (sent (due_notices k ns)) (n, refl) (notices-are k ns)

both-notices : (ds es : List Due) → All IsNotice (sent ds) → All IsNotice (sent es) → All IsNotice (sent (ds ++ es))
both-notices ds es a b = subst (All IsNotice) (sym (map-append (λ (d : Due). d.1) ds es)) (All-append IsNotice (sent ds) (sent es) a b)

fired-from : (lines : List TranscriptLine) (p : ℤ) (k : ℕ) (ls : List TranscriptLine) (x : Watches × List Due) → All IsNotice (sent x.1) → All IsNotice (sent (fired_from lines p k ls x).1)
fired-from lines p k [] x h = h
fired-from lines p k (l ∷ ls) x h = fired-from lines p (k + 1) ls (then_fired lines k (is_above p l) x) (one (is_above p l))
  where
    one : (b : Bool) → All IsNotice (sent (then_fired lines k b x).1)
    one false = h
    one true = both-notices x.1 (fired_at lines k x.0).1 h (notices-are (k + 1) (fire_all x.0 (state_at lines (k + 1)).triggers).1)

fired-notices : (lines : List TranscriptLine) (p : ℤ) (w : Watches) → All IsNotice (sent (fired_above lines p w).1)
unfolding fired_above
fired-notices lines p w = fired-from lines p 0 lines (w, []) (All-nil IsNotice)

-- ---- one choice

abbrev GivesNotices : Walker → Walker × List Due → Type 0
GivesNotices w y = (y.0.next ≡ w.next) × All IsNotice (sent y.1)

-- notices, and then the reply to the walker's next frame
record GivesReply (lines : List TranscriptLine) (c : ℕ) (w : Walker) (y : Walker × List Due) : Type 0 where
  next : y.0.next ≡ w.next + 1
  notices : List (List ℕ)
  packet : List ℕ
  is : sent y.1 ≡ notices ++ packet ∷ []
  are : All IsNotice notices
  reply : IsReplyTo lines c w.next packet

told-gives : (lines : List TranscriptLine) (w : Walker) (o : Option (ℕ × ℤ)) (y : Walker × List Due) → told_update lines w o ≡ Some y → GivesNotices w y
told-gives lines w None y h = absurd (none_some h)
told-gives lines w (Some u) y h = (
  ap (λ (p : Walker × List Due). p.0.next) (sym (some_is h)),
  subst (λ (p : Walker × List Due). All IsNotice (sent p.1)) (some_is h) (notices-are (u.0 + 1) (fire_all w.watches (state_at lines (u.0 + 1)).triggers).1),
)

module _ (lines : List TranscriptLine) (c : ℕ) (w : Walker) (f : ℕ × List ℕ) (here : placed_frame c w.next lines ≡ Some f) where
  plain-gives : (k : ℕ) (o : Option Told) (y : Walker × List Due) → plain_answer w k (xid_of (read_request f.1)) o ≡ Some y → GivesReply lines c w y
  plain-gives k None y h = absurd (none_some h)
  plain-gives k (Some t) y h =
      let packet = reply_packet (xid_of (read_request f.1)) w.zxid t.reply in
      record {
        next = ap (λ (p : Walker × List Due). p.0.next) (sym (some_is h));
        notices = sent (due_notices k t.notices);
        packet = packet;
        is = ap (λ (p : Walker × List Due). sent p.1) (sym (some_is h)) ∙ map-append (λ (d : Due). d.1) (due_notices k t.notices) ((k, packet) ∷ []);
        are = notices-are k t.notices;
        reply = record { place = f.0; bytes = f.1; framed = here; zxid = w.zxid; answer = t.reply; spells = refl };
      }

  reply-gives : (past : List TranscriptLine) (fired : List Due) (o : Option (Bool × Told)) (y : Walker × List Due) → All IsNotice (sent fired) → reply_step_if past w f.0 (xid_of (read_request f.1)) fired o ≡ Some y → GivesReply lines c w y
  reply-gives past fired None y all h = absurd (none_some h)
  reply-gives past fired (Some t) y all h =
      let z = (after past).zxid in
      let n = later_of (after_update z past) (f.0 + 1) in
      let packet = reply_packet (xid_of (read_request f.1)) z t.1.reply in
      let before : List Due = fired ++ due_notices n t.1.notices in
      record {
        next = ap (λ (p : Walker × List Due). p.0.next) (sym (some_is h));
        notices = sent before;
        packet = packet;
        is = ap (λ (p : Walker × List Due). sent p.1) (sym (some_is h)) ∙ map-append (λ (d : Due). d.1) before ((later_of (length past) (f.0 + 1), packet) ∷ []);
        are = both-notices fired (due_notices n t.1.notices) all (notices-are n t.1.notices);
        reply = record { place = f.0; bytes = f.1; framed = here; zxid = z; answer = t.1.reply; spells = refl };
      }

plainly-gives : (lines : List TranscriptLine) (c : ℕ) (w : Walker) (o : Option (ℕ × List ℕ)) (y : Walker × List Due) → placed_frame c w.next lines ≡ o → answer_plainly w o ≡ Some y → GivesReply lines c w y
plainly-gives lines c w None y e h = absurd (none_some h)
plainly-gives lines c w (Some f) y e h = plain-gives lines c w f e (later_of w.since (f.0 + 1)) (plain_reply w.watches (read_request f.1)) y h

as_of-gives : (lines past : List TranscriptLine) (c : ℕ) (id : ℤ) (w : Walker) (own : Option (ℕ × UpdateRec)) (o : Option (ℕ × List ℕ)) (y : Walker × List Due) → placed_frame c w.next lines ≡ o → answer_as_of past c id w own o ≡ Some y → GivesReply lines c w y
unfolding answer_as_of
as_of-gives lines past c id w own None y e h = absurd (none_some h)
as_of-gives lines past c id w own (Some f) y e h =
    reply-gives lines c w f e past (fired_above past w.zxid w.watches).1 _ y (fired-notices past w.zxid w.watches)
    (then_Some (may_answer_at past w && has_header (read_request f.1)) _ y h)

move-gives : (lines : List TranscriptLine) (c : ℕ) (id : ℤ) (w : Walker) (x : Choice) (y : Walker × List Due) → move lines c id w x ≡ Some y → GivesNotices w y ⊎ GivesReply lines c w y
unfolding move
move-gives lines c id w Tell y h = inl (told-gives lines w (next_update w.zxid lines) y (if_Some (is_unarmed w.watches) _ y h))
move-gives lines c id w Plain y h = inr (plainly-gives lines c w (placed_frame c w.next lines) y refl (if_Some w.over _ y h))
move-gives lines c id w (Answer m) y h = inr (as_of-gives lines (take m lines) c id w (own_update c w.next lines) (placed_frame c w.next lines) y refl (then_Some _ _ y (if_Some w.over _ y h)))

-- ---- a walk

notices-before : (lines : List TranscriptLine) (c i n : ℕ) (ns ps : List (List ℕ)) → All IsNotice ns → AreReplies lines c i n ps → AreReplies lines c i n (ns ++ ps)
notices-before lines c i zero ns ps all h = All-append IsNotice ns ps all h
notices-before lines c i (suc n) ns ps all (ms, packet, more, is, are, reply, rest) =
    (ns ++ ms, packet, more, ap (λ l. ns ++ l) is ∙ sym (append_assoc ns ms (packet ∷ more)), All-append IsNotice ns ms all are, reply, rest)

reply-before : (lines : List TranscriptLine) (c : ℕ) (w : Walker) (y : Walker × List Due) (n end : ℕ) (ps : List (List ℕ)) → GivesReply lines c w y → y.0.next ≤ end → w.next + n ≡ end
    → ((m : ℕ) → y.0.next + m ≡ end → AreReplies lines c y.0.next m ps) → AreReplies lines c w.next n (sent y.1 ++ ps)
reply-before lines c w y zero end ps g le e later = absurd (omega (arith, g.next, le, e))
reply-before lines c w y (suc n) end ps g le e later =
    (g.notices, g.packet, ps, ap (λ l. l ++ ps) g.is ∙ append_assoc g.notices (g.packet ∷ []) ps, g.are, g.reply, subst (λ i. AreReplies lines c i n ps) g.next (later n (omega (arith, g.next, e))))

choice-before : (lines : List TranscriptLine) (c : ℕ) (w : Walker) (y : Walker × List Due) (n end : ℕ) (ps : List (List ℕ)) → GivesNotices w y ⊎ GivesReply lines c w y → y.0.next ≤ end → w.next + n ≡ end
    → ((m : ℕ) → y.0.next + m ≡ end → AreReplies lines c y.0.next m ps) → AreReplies lines c w.next n (sent y.1 ++ ps)
choice-before lines c w y n end ps (inl g) le e later = notices-before lines c w.next n (sent y.1) ps g.1 (subst (λ i. AreReplies lines c i n ps) g.0 (later n (omega (arith, g.0, e))))
choice-before lines c w y n end ps (inr g) le e later = reply-before lines c w y n end ps g le e later

walk-replies : (lines : List TranscriptLine) (c : ℕ) (id : ℤ) (w : Walker) (xs : List Choice) (r : Walker × List Due) → walk lines c id w xs ≡ Some r → (n : ℕ) → w.next + n ≡ r.0.next → AreReplies lines c w.next n (sent r.1)
unfolding walk
walk-replies lines c id w [] r h n e =
    let none : n ≡ 0 = omega (arith, e, ap (λ (p : Walker × List Due). p.0.next) (some_is h)) in
    subst (λ m. AreReplies lines c w.next m (sent r.1)) (sym none) (subst (λ (p : Walker × List Due). All IsNotice (sent p.1)) (some_is h) (All-nil IsNotice))
walk-replies lines c id w (x ∷ xs) r h n e = go (move lines c id w x) refl (λ v q f m g. walk-replies lines c id v xs q f m g) h
  where
    go : (o : Option (Walker × List Due)) → move lines c id w x ≡ o → ((v : Walker) (q : Walker × List Due) → walk lines c id v xs ≡ Some q → (m : ℕ) → v.next + m ≡ q.0.next → AreReplies lines c v.next m (sent q.1))
        → (elim o [ None ↦ None | Some y ↦ then_due y.1 (walk lines c id y.0 xs) ]) ≡ Some r → AreReplies lines c w.next n (sent r.1)
    go None f later t = absurd (none_some t)
    go (Some y) f later t =
        let s = then_due-next y.1 (walk lines c id y.0 xs) r t in
        let next : s.0.0.next ≡ r.0.next = ap (λ (v : Walker). v.next) s.2 in
        let up = walk-next lines c id y.0 xs s.0 s.1 in
        let all : sent y.1 ++ sent s.0.1 ≡ sent r.1 = sym (map-append (λ (d : Due). d.1) y.1 s.0.1) ∙ ap sent s.3 in
        subst (AreReplies lines c w.next n) all
        (choice-before lines c w y n s.0.0.next (sent s.0.1) (move-gives lines c id w x y f) up (e ∙ sym next) (λ m g. later y.0 s.0 s.1 m g))

-- ---- what was sent is what was due

sent-same : (ds ps : List Due) → are_sent ds ps ≡ true → sent ds ≡ sent ps
sent-same [] [] h = refl
sent-same [] (p ∷ ps) h = absurd (cc)
sent-same (d ∷ ds) [] h = absurd (cc)
sent-same (d ∷ ds) (p ∷ ps) h =
    let both = and_parts (nat_le d.0 p.0 && bytes_eq d.1 p.1) (are_sent ds ps) h in
    let bytes = (bytes_eq-Decides d.1 p.1).0 ((and_parts (nat_le d.0 p.0) (bytes_eq d.1 p.1) both.0).1) in
    ap (λ b. b ∷ sent ds) bytes ∙ ap (λ l. p.1 ∷ l) (sent-same ds ps both.1)

-- ---- the answer to the connect

-- a welcome is sent to a connect that was read, so its frame has a line
welcome-answers : (lines : List TranscriptLine) (c k : ℕ) (id : ℤ) (p : Due) (o : Option (List ℕ)) (x : Option Session) → frame c 0 lines ≡ o → IsWelcomed lines c k id p (option_and_then read_connect o) x → IsConnectAnswer lines c p.1
welcome-answers lines c k id p None x e h = absurd h
welcome-answers lines c k id p (Some bytes) x e h = go (read_connect bytes) x h
  where
    go : (r : Option ConnectRequest) (y : Option Session) → IsWelcomed lines c k id p r y → IsConnectAnswer lines c p.1
    go None y g = absurd g
    go (Some r) None g = absurd g
    go (Some r) (Some y) g =
        let at = first_place-shown (frame_shown c 0) 0 lines bytes e in
        record { place = at.0; bytes = bytes; framed = at.1; response = welcome r id y; spells = g.1 }

-- where a session is attached, the first packet is the welcome
first-answers : (lines : List TranscriptLine) (c : ℕ) (a : ℕ × Attachment) (first : Due) (more : List Due) → attach_of c lines ≡ Some a → packets c lines ≡ first ∷ more → IsConnectAnswered lines c (packets c lines) (attach_of c lines) → IsConnectAnswer lines c first.1
first-answers lines c a first more attached is h =
    let welcomed = subst (λ o. IsConnectAnswered lines c (first ∷ more) o) attached (subst (λ ps. IsConnectAnswered lines c ps (attach_of c lines)) is h) in
    welcome-answers lines c a.0 a.1.session first (frame c 0 lines) (session_at a.1.session (state_at lines (a.0 + 1))) refl welcomed

-- ---- a connection at rest

module _ (w : World) (c : ℕ) (x : Conn) (core : Core) (h : IsAccounted w) (there : conn_at c w ≡ Some x) (actor : x.actor ≡ Connection core) where
  known : HasFrames w.lines c x.frames core × IsInStage w.store w.lines c core x.flight core.stage
  known = core-of w c x core h.known there actor

  at-rest : (st : Stage) → core.stage ≡ st → IsInStage w.store w.lines c core x.flight st → IsAnswered core st → IsAllAnswered w.lines c
  at-rest (Unconnected fresh) e k wait =
      let none : waits_from core.stage core.next + length core.waiting ≡ 0 = ap (λ st. waits_from st core.next + length core.waiting) e ∙ ap (λ (l : List (List ℕ)). 0 + length l) wait in
      let came = (known.0).came in
      record {
        frames = 0;
        none_later = λ i le. ((known.0).lined).to_come i (omega (arith, none, came));
        answered = ap sent ((k.0).untouched).silent;
      }
  at-rest Ready e k wait =
      let sv = h.whole.serving c x core there actor (ap is_served e) in
      let count : waits_from core.stage core.next + length core.waiting ≡ core.next + 0 = ap (λ st. waits_from st core.next + length core.waiting) e ∙ ap (λ (l : List (List ℕ)). core.next + length l) wait in
      let came = (known.0).came in
      let walked = (sv.talks).walked in
      let up = walk-next w.lines c core.who.session (at_start core.who.mine (sv.place + 1)) (sv.talks).choices (sv.walker, (sv.talks).due) walked in
      let same = ((sv.stands).matches).next in
      ready sv.walker.next up (λ i le. ((known.0).lined).to_come i (omega (arith, count, came, same, le)))
      sv.first sv.packets_were sv.welcomed
      (first-answers w.lines c (sv.place, attachment core.who) sv.first sv.packets_were sv.attached sv.welcomed (h.within c).connected)
      (λ m e2. subst (AreReplies w.lines c 1 m) (sent-same (sv.talks).due sv.packets_were (subst (λ ps. are_sent (sv.talks).due (drop 1 ps) ≡ true) sv.welcomed (sv.talks).sent))
      (walk-replies w.lines c core.who.session (at_start core.who.mine (sv.place + 1)) (sv.talks).choices (sv.walker, (sv.talks).due) walked m e2))
    where
      ready : (n : ℕ) → 1 ≤ n → ((i : ℕ) → n ≤ i → placed_frame c i w.lines ≡ None) → (first : Due) (were : List Due) → packets c w.lines ≡ first ∷ were → IsConnectAnswer w.lines c first.1 → ((m : ℕ) → 1 + m ≡ n → AreReplies w.lines c 1 m (sent were)) → IsAllAnswered w.lines c
      ready zero le none first were is connected replies = absurd (omega (arith, le))
      ready (suc m) le none first were is connected replies = record { frames = suc m; none_later = none; answered = subst (λ ps. AreAnswers w.lines c (suc m) (sent ps)) (sym is) (connected, replies m (omega arith)) }
  at-rest (Connecting y) e k wait = absurd wait
  at-rest (KeepingAlive f) e k wait = absurd wait
  at-rest (Checking f) e k wait = absurd wait
  at-rest (Reading xid r v ws) e k wait = absurd wait
  at-rest (Committing xid r v p m) e k wait = absurd wait
  at-rest (Waiting p) e k wait = absurd wait
  at-rest Shut e k wait = absurd wait

  all-answered : IsAnswered core core.stage → IsAllAnswered w.lines c
  all-answered wait = at-rest core.stage refl known.1 wait

idle-answered : (w : World) (c : ℕ) (x : Conn) → IsAccounted w → conn_at c w ≡ Some x → IsIdle x x.actor → HasClose w.lines c ⊎ IsAllAnswered w.lines c
idle-answered w c x h there idle = go x.actor refl idle
  where
    go : (a : Actor) → x.actor ≡ a → IsIdle x a → HasClose w.lines c ⊎ IsAllAnswered w.lines c
    go (Connection core) e i = inr (all-answered w c x core h there e i.1)
    go (Reaper r) e i = absurd i
    go Closed e i = inl (known-at w c x Closed h.known there e)

pub every-settle-answers : EverySettleAnswers
every-settle-answers hs ticks w w' c x offers within (first, begins, runs) small one there =
    let k = every-run-accounted hs ticks w offers within (first, begins, runs) in
    let counts = runs-counts first w hs ticks runs (first-counts first begins) in
    let s = settles-to w w' c (max_settling c w) k (lines-enough w c k counts small) one.effect in
    idle-answered w' c x s.accounted there (settled-idle w' c x s.accounted there s.nothing)
