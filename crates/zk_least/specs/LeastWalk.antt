-- The least walk: a connection's walk with no choice left, read off its packets. A reply that the frame gets without the tree
-- repeats the walker's zxid: before it updates are told until that is the reply's. Any other reply is given as of the least moment
-- that allows it, and the updates up to its zxid are told with it. After the last reply updates are told until no packet is left.
use Rattle.std.specs.Prelude.{◌≡◌, ℕ, zero, suc, ℤ, pos, negsuc, ◌+◌, ◌≤ℤ◌, Bool, true, false, ◌&&◌, ◌||◌, List, [], ◌∷◌, length, take, drop, nat_le, int_lt, if◌then◌else◌, Option, Some, None, is_some, option_map, bytes_eq, slice_get, IsTrue}
use Rattle.std.specs.Int.{from_be_bytes, cast_signed, w64}
use Rattle.std.specs.Ordering.{int_eq}
use Rattle.zk_jute.specs.Requests.{Frame, read_request}
use Rattle.zk_jute.specs.Packets.{reply_packet}
use Rattle.zk_model.specs.Watches.{no_watches}
use Rattle.zk_model.specs.Codes.{no_watcher}
use Rattle.zk_model.specs.declared.reply.Body.TheVariants as body
use Rattle.zk_model.specs.declared.reply.Reply.{Reply}
use Rattle.zk_model.specs.declared.reply.Reply.TheVariants as reply
use Rattle.zk_service.specs.declared.update.UpdateRec.{UpdateRec}
use Rattle.zk_transcript.specs.declared.transcript.TranscriptLine.{TranscriptLine}
use Rattle.zk_transcript.specs.declared.transcript.TranscriptLine.TheVariants.{Update}
use Rattle.zk_transcript.specs.Legal.{Attachment, is_legal, attach_of}
use Rattle.zk_service.specs.Answers.{Told, asks_of_watches, plain_reply, xid_of}
use Rattle.zk_transcript.specs.Walks.{Walker, Choice, Tell, Plain, Answer, Due, move, placed_frame, at_start, is_fresh, IsFreshWalk}
use Rattle.zk_transcript.specs.Conversations.{IsInConnection, later_packets, IsLawfulAndFresh}

-- ---- packets

-- the zxid in a packet's header, after its length and its xid (zookeeper.jute, `ReplyHeader`)
unfoldable pub zxid_in : List ℕ → ℤ
zxid_in bytes = cast_signed w64 (from_be_bytes w64 (take 8 (drop 8 bytes)))

-- the packet is a notice: its zxid is -1, which no update has
abbrev pub is_notice : List ℕ → Bool
is_notice bytes = int_eq (zxid_in bytes) (negsuc 0)

-- the first packet that is no notice
abbrev pub next_reply : List Due → Option (List ℕ)
next_reply [] = None
next_reply (p ∷ ps) = if is_notice p.1 then next_reply ps else Some p.1

-- the packets that are left after those that are due, where these come first and none stands before the first place where it may
abbrev pub rest_after : List Due → List Due → Option (List Due)
rest_after [] ps = Some ps
rest_after (d ∷ ds) [] = None
rest_after (d ∷ ds) (p ∷ ps) = if nat_le d.0 p.0 && bytes_eq d.1 p.1 then rest_after ds ps else None

-- ---- the next choice

-- the walker after a choice and the packets that are left, where the choice gives the next packets
abbrev pub given : List Due → Option (Walker × List Due) → Option (Walker × List Due)
given ps None = None
given ps (Some y) = option_map (λ rest. (y.0, rest)) (rest_after y.1 ps)

-- a moment that is fresh, and at which an answer to the next frame gives the next packets
abbrev pub is_allowed : List TranscriptLine → ℕ → ℤ → Walker → List Due → ℕ → Bool
is_allowed lines c id w ps m = is_fresh lines c w.next (Answer m) && is_some (given ps (move lines c id w (Answer m)))

-- of the n + 1 numbers from m on, the first that passes the test
abbrev pub first_passing : (ℕ → Bool) → ℕ → ℕ → Option ℕ
first_passing test m zero = if test m then Some m else None
first_passing test m (suc n) = if test m then Some m else first_passing test (m + 1) n

abbrev pub least_moment : List TranscriptLine → ℕ → ℤ → Walker → List Due → Option ℕ
least_moment lines c id w ps = first_passing (is_allowed lines c id w ps) 0 (length lines)

-- the packet is this answer to the frame, with whatever zxid
abbrev pub is_answer : Frame → List ℕ → Reply → Bool
is_answer x bytes r = bytes_eq bytes (reply_packet (xid_of x) (zxid_in bytes) r)

-- the packet is one of the answers that a checkWatches or removeWatches gets by what is armed
abbrev pub is_watch_answer : Frame → List ℕ → Bool → Bool
is_watch_answer x bytes false = false
is_watch_answer x bytes true = is_answer x bytes (reply.Good body.Empty) || is_answer x bytes (reply.Refused no_watcher)

-- the packet is the frame's answer without the tree, with whatever zxid; of an answer that depends on what is armed, either one
abbrev pub is_plain : Frame → Option Told → List ℕ → Bool
is_plain x None bytes = false
is_plain x (Some t) bytes = is_answer x bytes t.reply || is_watch_answer x bytes (asks_of_watches x)

abbrev pub repeats : Option (ℕ × List ℕ) → List ℕ → Bool
repeats None bytes = false
repeats (Some f) bytes = is_plain (read_request f.1) (plain_reply no_watches (read_request f.1)) bytes

-- the next update is told where the walker's zxid is below the reply's, and otherwise the frame is answered
abbrev pub plain_choice : Walker → ℤ → Choice
plain_choice w z = if int_lt w.zxid z then Tell else Plain

abbrev pub choice_for : List TranscriptLine → ℕ → ℤ → Walker → List Due → Option (List ℕ) → Option Choice
choice_for lines c id w ps None = Some Tell
choice_for lines c id w ps (Some bytes) =
    if repeats (placed_frame c w.next lines) bytes then Some (plain_choice w (zxid_in bytes))
    else option_map (λ m. Answer m) (least_moment lines c id w ps)

unfoldable pub least_choice : List TranscriptLine → ℕ → ℤ → Walker → List Due → Option Choice
least_choice lines c id w ps = choice_for lines c id w ps (next_reply ps)

-- ---- the walk; n is at least the number of its choices

unfoldable pub least_from : ℕ → List TranscriptLine → ℕ → ℤ → Walker → List Due → Option (List Choice)
least_from n lines c id w [] = Some []
least_from zero lines c id w (p ∷ ps) = None
least_from (suc n) lines c id w (p ∷ ps) =
    elim (least_choice lines c id w (p ∷ ps)) [
      | None ↦ None
      | Some x ↦ elim (given (p ∷ ps) (move lines c id w x)) [ None ↦ None | Some y ↦ option_map (λ xs. x ∷ xs) (least_from n lines c id y.0 y.1) ]
    ]

-- the least walk from an attachment. Each choice tells an update or takes a packet, so there are no more than these
abbrev pub least_walk : List TranscriptLine → ℕ → ℤ → ℤ → ℕ → List Due → Option (List Choice)
least_walk lines c id zxid since ps = least_from (length lines + length ps) lines c id (at_start zxid since) ps

-- no update has a zxid below 0: a reply of zxid -1 would look like a notice
abbrev pub HasZxids : List TranscriptLine → Type 0
HasZxids lines = (k : ℕ) (u : UpdateRec) → slice_get lines k ≡ Some (Update u) → pos 0 ≤ℤ u.zxid

-- ---- the law: some walk that is lawful and fresh gives the packets exactly where the least walk does

pub record IsSameWalk (lines : List TranscriptLine) (c : ℕ) (id zxid : ℤ) (since : ℕ) (ps : List Due) : Type 0 where
  pub sound : IsTrue (is_some (least_walk lines c id zxid since ps)) → IsFreshWalk lines c id zxid since ps
  pub complete : IsFreshWalk lines c id zxid since ps → IsTrue (is_some (least_walk lines c id zxid since ps))

-- from an attachment
abbrev pub LeastWalkLaw : Type 0
LeastWalkLaw = (lines : List TranscriptLine) (c : ℕ) (a : ℕ × Attachment) (ps : List Due)
    → IsTrue (is_legal lines) → HasZxids lines → attach_of c lines ≡ Some a → IsSameWalk lines c a.1.session a.1.zxid (a.0 + 1) ps

-- ---- whole conversations

-- what is asked besides the walk holds, and where c has an attachment, the least walk from there gives the packets after the
-- welcome
pub record IsLeastLawful (lines : List TranscriptLine) (c : ℕ) : Type 0 where
  pub within : IsInConnection lines c
  pub walks : (a : ℕ × Attachment) → attach_of c lines ≡ Some a → IsTrue (is_some (least_walk lines c a.1.session a.1.zxid (a.0 + 1) (later_packets c lines)))

pub record IsJudgedAlike (lines : List TranscriptLine) (c : ℕ) : Type 0 where
  pub sound : IsLeastLawful lines c → IsLawfulAndFresh lines c
  pub complete : IsLawfulAndFresh lines c → IsLeastLawful lines c

abbrev pub ConversationLaw : Type 0
ConversationLaw = (lines : List TranscriptLine) (c : ℕ) → IsTrue (is_legal lines) → HasZxids lines → IsJudgedAlike lines c
