-- That a connection was answered, said of the transcript's lines alone.
use Rattle.std.specs.Prelude.{All, List, Some, None, [], map, suc, zero, ℕ, ℤ, ◌+◌, ◌++◌, ◌∷◌, ◌≡◌, ◌≤◌, ◌⊎◌}
use Rattle.zk_jute.specs.Packets.{connect_packet, notice_packet, reply_packet}
use Rattle.zk_jute.specs.Requests.{read_request}
use Rattle.zk_model.specs.declared.connect.ConnectResponse.{ConnectResponse}
use Rattle.zk_model.specs.declared.reply.Notice.{Notice}
use Rattle.zk_model.specs.declared.reply.Reply.{Reply}
use Rattle.zk_service.specs.Answers.{xid_of}
use Rattle.zk_transcript.specs.Legal.{Tick}
use Rattle.zk_transcript.specs.Walks.{Due, packets, placed_frame}
use Rattle.zk_transcript.specs.declared.transcript.TranscriptLine.{TranscriptLine}
use Rattle.zp_script.specs.Happens.{Happens}
use Rattle.zp_script.specs.Runs.{Runs}
use Rattle.zp_script.specs.Worlds.{Conn, World, conn_at}
use Rattle.zp_world_laws.specs.Accounting.{IsWithinCounts, OffersSession}
use Rattle.zp_world_laws.specs.Knowing.{HasClose}
use Rattle.zt_text.specs.declared.script.Happening.TheVariants as line
use Rattle.zt_text.specs.declared.script.Happening.{Happening}
use Rattle.zp_settle_laws.specs.Settling.{IsWithinBound}

-- ---- packets

abbrev pub IsNotice : List ℕ → Type 0
IsNotice packet = (n : Notice) × (packet ≡ notice_packet n)

-- the answer to frame 0 of c, its connect: a welcome or a refusal
pub record IsConnectAnswer (lines : List TranscriptLine) (c : ℕ) (packet : List ℕ) : Type 0 where
  pub place : ℕ
  pub bytes : List ℕ
  pub framed : placed_frame c 0 lines ≡ Some (place, bytes)
  pub response : ConnectResponse
  pub spells : packet ≡ connect_packet response

-- the reply to frame i of c: it has that frame's xid
pub record IsReplyTo (lines : List TranscriptLine) (c i : ℕ) (packet : List ℕ) : Type 0 where
  pub place : ℕ
  pub bytes : List ℕ
  pub framed : placed_frame c i lines ≡ Some (place, bytes)
  pub zxid : ℤ
  pub answer : Reply
  pub spells : packet ≡ reply_packet (xid_of (read_request bytes)) zxid answer

-- one reply to each of n frames of c, from frame i on and in their order, and else notices
abbrev pub AreReplies : List TranscriptLine → ℕ → ℕ → ℕ → List (List ℕ) → Type 0
AreReplies lines c i zero ps = All IsNotice ps
AreReplies lines c i (suc n) ps = (notices : List (List ℕ)) × (packet : List ℕ) × (more : List (List ℕ)) × (ps ≡ notices ++ packet ∷ more)
    × All IsNotice notices × IsReplyTo lines c i packet × AreReplies lines c (i + 1) n more

-- ---- all that a connection was sent

-- Where no frame came nothing was sent. Otherwise the first packet answers the connect, which is frame 0, and each later frame has
-- one reply.
abbrev pub AreAnswers : List TranscriptLine → ℕ → ℕ → List (List ℕ) → Type 0
AreAnswers lines c zero ps = ps ≡ []
AreAnswers lines c (suc n) [] = ⊥
AreAnswers lines c (suc n) (first ∷ ps) = IsConnectAnswer lines c first × AreReplies lines c 1 n ps

-- Each frame of c has its answer: each below `frames` has a line, which its answer names, and no later one has a line.
pub record IsAllAnswered (lines : List TranscriptLine) (c : ℕ) : Type 0 where
  pub frames : ℕ
  pub none_later : (i : ℕ) → frames ≤ i → placed_frame c i lines ≡ None
  pub answered : AreAnswers lines c frames (map (λ (p : Due). p.1) (packets c lines))

-- ---- the law

-- in any run, after a settle of c its close line stands, or each of its frames has its answer
abbrev pub EverySettleAnswers : Type 0
EverySettleAnswers = (hs : List Happening) (ticks : List Tick) (w w' : World) (c : ℕ) (x : Conn) → All OffersSession hs → IsWithinCounts w
    → Runs hs ticks w → IsWithinBound c w → Happens w (line.Settle c) w' → conn_at c w' ≡ Some x
    → HasClose w'.lines c ⊎ IsAllAnswered w'.lines c
