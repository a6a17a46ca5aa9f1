-- The walk of one connection: what it is sent after its attachment (Programmer's Guide, "ZooKeeper Watches", "What ZooKeeper
-- Guarantees about Watches", "Consistency Guarantees": single system image, order of a client's requests).
-- The service is free in three ways only: when it tells the next update, whether it tests the session for a request that needs no
-- tree, and at which moment it looks. A list of choices settles these, and then each packet is determined. The packets are lawful
-- where some choices give them; two tests of the choices, fresh and in turn, come on top of that.
use Rattle.std.specs.Prelude.{ℕ, ℤ, ◌+◌, Bool, true, false, ◌&&◌, List, [], ◌∷◌, ◌++◌, length, take, map, nat_lt, nat_le, ◌==◌, int_lt, int_le, if◌then◌else◌, Option, Some, None, option_map, option_and_then, bytes_eq, IsTrue}
use Rattle.std.specs.List.{list_all}
use Rattle.std.specs.Ordering.{int_eq}
use Rattle.zk_model.specs.declared.reply.Body.{Body}
use Rattle.zk_model.specs.declared.reply.Body.TheVariants as body
use Rattle.zk_model.specs.declared.reply.Reply.{Reply}
use Rattle.zk_model.specs.declared.reply.Reply.TheVariants as reply
use Rattle.zk_model.specs.declared.reply.Notice.{Notice}
use Rattle.zk_service.specs.declared.update.UpdateRec.{UpdateRec}
use Rattle.zk_service.specs.declared.update.UpdateKind.{UpdateKind}
use Rattle.zk_service.specs.declared.update.UpdateKind.TheVariants.{Asked, Closed}
use Rattle.zk_transcript.specs.declared.transcript.TranscriptLine.{TranscriptLine}
use Rattle.zk_transcript.specs.declared.transcript.TranscriptLine.TheVariants.{Update, Send}
use Rattle.zk_jute.specs.Requests.{Frame, read_request}
use Rattle.zk_jute.specs.Packets.{reply_packet, notice_packet}
use Rattle.zk_model.specs.Watches.{Watches, no_watches, is_unarmed, fire_all}
use Rattle.zk_service.specs.States.{State, session_at, Commit}
use Rattle.zk_transcript.specs.History.{after, state_at, first_place, when, frame_shown, asked_commit, asked_in}
use Rattle.zk_transcript.specs.Legal.{index_shown, is_below_place}
use Rattle.zk_service.specs.Answers.{Told, only, told, plain_reply, session_refusal, owned_limit_in, tree_reply, xid_of, has_header, is_auth_refusal}

-- ---- updates and frames in a transcript, by their lines' places

-- the first update above a zxid
abbrev pub above_shown : ℤ → TranscriptLine → Option ℤ
above_shown p (Update u) = when (int_lt p u.zxid) u.zxid
above_shown p _ = None

abbrev pub next_update : ℤ → List TranscriptLine → Option (ℕ × ℤ)
next_update p lines = first_place (above_shown p) 0 lines

abbrev pub update_shown : ℤ → TranscriptLine → Option ℤ
update_shown z (Update u) = when (int_eq z u.zxid) u.zxid
update_shown z _ = None

abbrev pub after_place : {A : Type 0} → Option (ℕ × A) → ℕ
after_place None = 0
after_place (Some x) = x.0 + 1

-- the moment right after the update of a zxid, or 0 where there is none
abbrev pub after_update : ℤ → List TranscriptLine → ℕ
after_update z lines = after_place (first_place (update_shown z) 0 lines)

-- the place and the bytes of frame i of a connection
abbrev pub placed_frame : ℕ → ℕ → List TranscriptLine → Option (ℕ × List ℕ)
placed_frame c i lines = first_place (frame_shown c i) 0 lines

-- a request's own update: the one that carries it out
abbrev pub own_update_in : ℕ → ℕ → UpdateRec → UpdateKind → Option UpdateRec
own_update_in c i u (Asked connection index now) = when ((c == connection) && (i == index)) u
own_update_in c i u (Closed id connection index) = when ((c == connection) && (i == index)) u
own_update_in c i u _ = None

abbrev pub own_update_shown : ℕ → ℕ → TranscriptLine → Option UpdateRec
own_update_shown c i (Update u) = own_update_in c i u u.kind
own_update_shown c i _ = None

abbrev pub own_update : ℕ → ℕ → List TranscriptLine → Option (ℕ × UpdateRec)
own_update c i lines = first_place (own_update_shown c i) 0 lines

-- ---- the walk

-- a packet, and the first place where its line may stand
abbrev pub Due : Type 0
Due = ℕ × List ℕ

pub record Walker : Type 0 where
  -- the zxid up to which the client has been told, and the moment right after that update
  pub zxid : ℤ
  pub since : ℕ
  pub watches : Watches
  -- the next frame to answer
  pub next : ℕ
  -- the moment of the last reply that had one
  pub moment : ℕ
  -- no further request is answered
  pub over : Bool

pub data Choice : Type 0 where
  -- tell the next update
  Tell : Choice
  -- answer the next frame without the tree
  Plain : Choice
  -- answer the next frame as of a moment
  Answer : (moment : ℕ) → Choice

abbrev pub due_notices : ℕ → List Notice → List Due
due_notices k ns = map (λ (n : Notice). (k, notice_packet n)) ns

-- the update at a place fires its triggers
abbrev pub fired_at : List TranscriptLine → ℕ → Watches → Watches × List Due
fired_at lines k w = let f = fire_all w (state_at lines (k + 1)).triggers in (f.0, due_notices (k + 1) f.1)

abbrev pub told_update : List TranscriptLine → Walker → Option (ℕ × ℤ) → Option (Walker × List Due)
told_update lines w None = None
told_update lines w (Some u) =
    let f = fired_at lines u.0 w.watches in
    Some (record w { zxid = u.1; since = u.0 + 1; watches = f.0 }, f.1)

-- the next update is told only where something is armed
abbrev pub entry_step : List TranscriptLine → Walker → Option (Walker × List Due)
entry_step lines w = if is_unarmed w.watches then None else told_update lines w (next_update w.zxid lines)

abbrev pub is_above : ℤ → TranscriptLine → Bool
is_above p (Update u) = int_lt p u.zxid
is_above p _ = false

abbrev pub then_fired : List TranscriptLine → ℕ → Bool → Watches × List Due → Watches × List Due
then_fired lines k false x = x
then_fired lines k true x = let f = fired_at lines k x.0 in (f.0, x.1 ++ f.1)

abbrev pub fired_from : List TranscriptLine → ℤ → ℕ → List TranscriptLine → Watches × List Due → Watches × List Due
fired_from lines p k [] x = x
fired_from lines p k (l ∷ ls) x = fired_from lines p (k + 1) ls (then_fired lines k (is_above p l) x)

-- the updates above a zxid fire in order: what stays armed, and the notices
unfoldable pub fired_above : List TranscriptLine → ℤ → Watches → Watches × List Due
fired_above lines p w = fired_from lines p 0 lines (w, [])

-- ---- an answer without the tree, which repeats the walker's zxid

abbrev pub plain_answer : Walker → ℕ → ℤ → Option Told → Option (Walker × List Due)
plain_answer w k xid None = None
plain_answer w k xid (Some t) =
    Some (record w { watches = t.watches; next = w.next + 1; over = is_auth_refusal t.reply }, due_notices k t.notices ++ (k, reply_packet xid w.zxid t.reply) ∷ [])

abbrev pub later_of : ℕ → ℕ → ℕ
later_of a b = if nat_le a b then b else a

-- such an answer is due after the line of its frame and after the update whose zxid it repeats
abbrev pub answer_plainly : Walker → Option (ℕ × List ℕ) → Option (Walker × List Due)
answer_plainly w None = None
answer_plainly w (Some f) = let x = read_request f.1 in plain_answer w (later_of w.since (f.0 + 1)) (xid_of x) (plain_reply w.watches x)

-- ---- what is told as of a moment, and whether no request is answered after it. `past` are the lines before the moment

abbrev pub with_end : Bool → Option Told → Option (Bool × Told)
with_end over None = None
with_end over (Some t) = Some (over, t)

-- the tree's answer to a request, where t is the answer that needs no tree: there is none where t is one
abbrev pub looked : State → ℕ → ℤ → Watches → Frame → Option Told → Option Told
looked s limit id w x (Some t) = None
looked s limit id w x None = option_and_then (tree_reply s.tree limit id w) (asked_in x)

-- the refusal of the session test, which ends the conversation; or else the tree's answer
abbrev pub seen_told : State → ℕ → ℤ → Frame → Watches → Option Reply → Option (Bool × Told)
seen_told s limit id x w (Some r) = Some (true, only w r)
seen_told s limit id x w None = with_end false (looked s limit id w x (plain_reply w x))

abbrev pub told_by_state : State → ℕ → ℤ → Frame → Watches → Option (Bool × Told)
told_by_state s c id x w = seen_told s (owned_limit_in (session_at id s)) id x w (session_refusal c (session_at id s))

-- the response to a request that was carried out, by what its line did
abbrev pub response_at : List TranscriptLine → ℕ → ℤ → UpdateKind → Option Body
response_at lines k zxid (Asked c i now) = option_map (λ (x : Commit). x.response) (asked_commit (take k lines) (state_at lines k) zxid c i now)
response_at lines k zxid (Closed id c i) = Some body.Empty
response_at lines k zxid _ = None

abbrev pub told_response : Watches → Option Body → Option Told
told_response w None = None
told_response w (Some b) = told w (reply.Good b)

abbrev pub closes_session : UpdateKind → Bool
closes_session (Closed id c i) = true
closes_session _ = false

-- a request that was carried out is answered only as of the moment right after its own line, and any other by the state then
unfoldable pub told_as_of : List TranscriptLine → ℕ → ℤ → Frame → Watches → Option (ℕ × UpdateRec) → Option (Bool × Told)
told_as_of past c id x w (Some u) =
    if length past == u.0 + 1 then with_end (closes_session u.1.kind) (told_response w (response_at past u.0 u.1.zxid u.1.kind)) else None
told_as_of past c id x w None = told_by_state (after past) c id x w

-- ---- an answer as of a moment

-- the walker and the packets, once it is known what is told. First come the notices of the updates that the client was not told
-- of. Then come those of the answer, which are due after the last update before the moment, and the reply, which is due after its
-- moment; none of these stands before the line of its frame, at k
abbrev pub reply_step : List TranscriptLine → Walker → ℕ → ℤ → List Due → Bool × Told → Walker × List Due
reply_step past w k xid fired t =
    let z = (after past).zxid in
    let n = after_update z past in (
      record { zxid = z; since = n; watches = t.1.watches; next = w.next + 1; moment = length past; over = t.0 },
      fired ++ due_notices (later_of n (k + 1)) t.1.notices ++ ((later_of (length past) (k + 1), reply_packet xid z t.1.reply) ∷ []),
    )

abbrev pub reply_step_if : List TranscriptLine → Walker → ℕ → ℤ → List Due → Option (Bool × Told) → Option (Walker × List Due)
reply_step_if past w k xid fired None = None
reply_step_if past w k xid fired (Some t) = Some (reply_step past w k xid fired t)

-- the moment is not before that of the last reply that had one, and the last update before it is not below the walker's zxid
abbrev pub may_answer_at : List TranscriptLine → Walker → Bool
may_answer_at past w = nat_le w.moment (length past) && int_le w.zxid (after past).zxid

-- the answer to a frame at its place, whose request has this update of its own or none
unfoldable pub answer_as_of : List TranscriptLine → ℕ → ℤ → Walker → Option (ℕ × UpdateRec) → Option (ℕ × List ℕ) → Option (Walker × List Due)
answer_as_of past c id w own None = None
answer_as_of past c id w own (Some f) =
    let x = read_request f.1 in
    let g = fired_above past w.zxid w.watches in
    if may_answer_at past w && has_header x then reply_step_if past w f.0 (xid_of x) g.1 (told_as_of past c id x g.0 own) else None

abbrev pub unless_over : Walker → Option (Walker × List Due) → Option (Walker × List Due)
unless_over w o = if w.over then None else o

-- what one choice gives, where it can be made. The frame and its own update are looked up in all lines
unfoldable pub move : List TranscriptLine → ℕ → ℤ → Walker → Choice → Option (Walker × List Due)
move lines c id w Tell = entry_step lines w
move lines c id w Plain = unless_over w (answer_plainly w (placed_frame c w.next lines))
move lines c id w (Answer m) =
    unless_over w (if nat_le m (length lines) then answer_as_of (take m lines) c id w (own_update c w.next lines) (placed_frame c w.next lines) else None)

abbrev pub then_due : List Due → Option (Walker × List Due) → Option (Walker × List Due)
then_due first None = None
then_due first (Some x) = Some (x.0, first ++ x.1)

unfoldable pub walk : List TranscriptLine → ℕ → ℤ → Walker → List Choice → Option (Walker × List Due)
walk lines c id w [] = Some (w, [])
walk lines c id w (x ∷ xs) =
    elim (move lines c id w x) [
      | None ↦ None
      | Some y ↦ then_due y.1 (walk lines c id y.0 xs)
    ]

-- ---- the packets that a connection was sent

abbrev pub packets_from : ℕ → ℕ → List TranscriptLine → List Due
packets_from c k [] = []
packets_from c k (Send connection bytes ∷ ls) = if c == connection then (k, bytes) ∷ packets_from c (k + 1) ls else packets_from c (k + 1) ls
packets_from c k (l ∷ ls) = packets_from c (k + 1) ls

abbrev pub packets : ℕ → List TranscriptLine → List Due
packets c lines = packets_from c 0 lines

-- the packets that were sent are those that were due, in order, and none stands before the first place where it may
abbrev pub are_sent : List Due → List Due → Bool
are_sent [] [] = true
are_sent [] (p ∷ ps) = false
are_sent (d ∷ ds) [] = false
are_sent (d ∷ ds) (p ∷ ps) = nat_le d.0 p.0 && bytes_eq d.1 p.1 && are_sent ds ps

abbrev pub is_walked : Option (Walker × List Due) → List Due → Bool
is_walked None ps = false
is_walked (Some x) ps = are_sent x.1 ps

-- the walker right after an attachment: nothing is armed, and frame 1 is the first to answer
abbrev pub at_start : ℤ → ℕ → Walker
at_start zxid since = record { zxid = zxid; since = since; watches = no_watches; next = 1; moment = 0; over = false }

-- ---- two tests of the choices themselves; i is the index of the next frame to answer

abbrev pub next_index : ℕ → Choice → ℕ
next_index i Tell = i
next_index i Plain = i + 1
next_index i (Answer m) = i + 1

unfoldable pub all_choices : (ℕ → Choice → Bool) → ℕ → List Choice → Bool
all_choices test i [] = true
all_choices test i (x ∷ xs) = test i x && all_choices test (next_index i x) xs

abbrev pub is_past : ℕ → Option (ℕ × List ℕ) → Bool
is_past m None = false
is_past m (Some f) = nat_lt f.0 m

abbrev pub is_fresh : List TranscriptLine → ℕ → ℕ → Choice → Bool
is_fresh lines c i (Answer m) = is_past m (placed_frame c i lines)
is_fresh lines c i _ = true

-- fresh: each reply that has a moment has one after the line of its frame
abbrev pub are_fresh : List TranscriptLine → ℕ → ℕ → List Choice → Bool
are_fresh lines c i xs = all_choices (is_fresh lines c) i xs

-- no request of c with a number above i was carried out
abbrev pub is_not_overtaken : List TranscriptLine → ℕ → ℕ → Bool
is_not_overtaken past c i = list_all (λ l. is_below_place (i + 1) (index_shown c l)) past

abbrev pub is_in_turn : List TranscriptLine → ℕ → ℕ → Choice → Bool
is_in_turn lines c i (Answer m) = is_not_overtaken (take m lines) c i
is_in_turn lines c i _ = true

-- in turn: no reply has a moment at which a later request of its connection has been carried out
abbrev pub are_in_turn : List TranscriptLine → ℕ → ℕ → List Choice → Bool
are_in_turn lines c i xs = all_choices (is_in_turn lines c) i xs

-- ---- walks from an attachment with this zxid, whose line is the last before the moment `since`

-- lawful and fresh: some choices give these packets, and are fresh
pub record IsFreshWalk (lines : List TranscriptLine) (c : ℕ) (id zxid : ℤ) (since : ℕ) (ps : List Due) : Type 0 where
  pub choices : List Choice
  pub lawful : IsTrue (is_walked (walk lines c id (at_start zxid since) choices) ps)
  pub fresh : IsTrue (are_fresh lines c 1 choices)

-- what the service gives: lawful, fresh and in turn, by the same choices
pub record IsWalk (lines : List TranscriptLine) (c : ℕ) (id zxid : ℤ) (since : ℕ) (ps : List Due) : Type 0 where
  pub choices : List Choice
  pub lawful : IsTrue (is_walked (walk lines c id (at_start zxid since) choices) ps)
  pub fresh : IsTrue (are_fresh lines c 1 choices)
  pub in_turn : IsTrue (are_in_turn lines c 1 choices)
