-- Which of the client's frames were answered: each has one reply, in their order (ZooKeeper Programmer's Guide, "ZooKeeper
-- Sessions": the server answers the requests of a client in order).
use Rattle.std.specs.Prelude.{◌≡◌, ℕ, ℤ, ◌≤◌, Bool, true, false, List, [], ◌∷◌, ◌++◌, length, All}
use Rattle.zk_jute.specs.Packets.{connect_packet, notice_packet, reply_packet}
use Rattle.zk_jute.specs.Requests.{read_request}
use Rattle.zk_model.specs.declared.connect.ConnectResponse.{ConnectResponse}
use Rattle.zk_model.specs.declared.reply.Notice.{Notice}
use Rattle.zk_model.specs.declared.reply.Reply.{Reply}
use Rattle.zk_service.specs.Answers.{xid_of}
use Rattle.zk_service.specs.declared.cause.Cause.{Cause}
use Rattle.zk_service.specs.declared.cause.Cause.TheVariants as cause
use Rattle.zp_step.specs.Stages.{Stage, Unconnected, Connecting, Ready, KeepingAlive, Checking, Reading, Committing, Waiting, Shut}

-- ---- packets

abbrev pub IsNotice : List ℕ → Type 0
IsNotice packet = (n : Notice) × (packet ≡ notice_packet n)

-- the answer to a connect: a welcome or a refusal
abbrev pub IsConnectAnswer : List ℕ → Type 0
IsConnectAnswer packet = (r : ConnectResponse) × (packet ≡ connect_packet r)

-- a reply with the frame's xid
abbrev pub IsReplyTo : List ℕ → List ℕ → Type 0
IsReplyTo frame packet = (zxid : ℤ) × (answer : Reply) × (packet ≡ reply_packet (xid_of (read_request frame)) zxid answer)

-- one reply to each of these frames, in their order, and else notices
abbrev pub AreReplies : List (List ℕ) → List (List ℕ) → Type 0
AreReplies [] ps = All IsNotice ps
AreReplies (f ∷ fs) ps = (notices : List (List ℕ)) × (packet : List ℕ) × (more : List (List ℕ)) × (ps ≡ notices ++ packet ∷ more) × All IsNotice notices × IsReplyTo f packet × AreReplies fs more

-- where no frame came nothing is sent; otherwise the first packet answers the connect, and each later frame has one reply
abbrev pub AreAnswers : List (List ℕ) → List (List ℕ) → Type 0
AreAnswers [] ps = ps ≡ []
AreAnswers (connect ∷ fs) [] = ⊥
AreAnswers (connect ∷ fs) (p ∷ ps) = IsConnectAnswer p × AreReplies fs ps

-- ---- at the end

-- The connection ends after an answer, or where it waited for a frame: no frame that was handed in is left then.
abbrev pub is_answered : Cause → Bool
is_answered cause.Closed = true
is_answered (cause.Expired revision) = true
is_answered (cause.Moved mine found) = true
is_answered cause.AuthRefused = true
is_answered cause.Unknown = true
is_answered (cause.ClientEnd place) = true
is_answered (cause.BadLength place n) = true
is_answered _ = false

-- Of the frames that were handed in, each has its answer but perhaps the last one, at which the connection ended.
pub record AreAnswered (why : Cause) (frames packets : List (List ℕ)) : Type 0 where
  pub done : List (List ℕ)
  pub left : List (List ℕ)
  pub split : frames ≡ done ++ left
  pub one : length left ≤ 1
  pub answers : AreAnswers done packets
  pub whole : is_answered why ≡ true → left ≡ []

-- ---- meanwhile

-- the connect and other frames have their answers, and these are left
pub record IsServed (left frames packets : List (List ℕ)) : Type 0 where
  pub connect : List ℕ
  pub done : List (List ℕ)
  pub split : frames ≡ connect ∷ (done ++ left)
  pub first : List ℕ
  pub more : List (List ℕ)
  pub sent : packets ≡ first ∷ more
  pub welcome : IsConnectAnswer first
  pub replies : AreReplies done more

-- a frame with this xid is left
abbrev pub IsAtWork : ℤ → List (List ℕ) → List (List ℕ) → Type 0
IsAtWork xid fs ps = (f : List ℕ) × (xid_of (read_request f) ≡ xid) × IsServed (f ∷ []) fs ps

-- a connection in this stage, in which no frame waits after the one at work, was handed in these frames and sent these packets
abbrev pub HasAnswered : Stage → List (List ℕ) → List (List ℕ) → Type 0
HasAnswered (Unconnected fresh) fs ps = (fs ≡ []) × (ps ≡ [])
HasAnswered (Connecting connect) fs ps = (f : List ℕ) × (fs ≡ f ∷ []) × (ps ≡ [])
HasAnswered Ready fs ps = IsServed [] fs ps
HasAnswered (KeepingAlive f) fs ps = IsServed (f ∷ []) fs ps
HasAnswered (Checking f) fs ps = IsServed (f ∷ []) fs ps
HasAnswered (Reading xid r v ws) fs ps = IsAtWork xid fs ps
HasAnswered (Committing xid r v p time) fs ps = IsAtWork xid fs ps
HasAnswered (Waiting p) fs ps = IsAtWork p.xid fs ps
HasAnswered Shut fs ps = Unit {0}
