-- What is known of a conversation at a moment, before the state then is looked at.
use Rattle.std.specs.Prelude.{◌≡◌, ℕ, ◌+◌, ◌≤◌, ◌↔◌, true, List, Option, None, Some, if◌then◌else◌, is_some, length, map, nat_le, IsTrue}
use Rattle.std.specs.List.{Contains}
use Rattle.zk_model.specs.declared.connect.ConnectRequest.{ConnectRequest}
use Rattle.zk_transcript.specs.declared.transcript.TranscriptLine.{TranscriptLine}
use Rattle.zk_transcript.specs.declared.transcript.TranscriptLine.TheVariants.{Open}
use Rattle.zk_transcript.specs.History.{connect, opening, state_at}
use Rattle.zk_transcript.specs.Legal.{attach_of}
use Rattle.zk_transcript.specs.Walks.{Due, placed_frame}
use Rattle.zk_transcript.specs.Conversations.{IsLawfulAndFresh, IsRefused, IsWelcomed}
use Rattle.zk_service.specs.States.{State, session_at}
use Rattle.zk_service.specs.Answers.{may_refuse}
use Rattle.zk_judge.specs.Faults.{IsBelow, IsFault}
use Rattle.zk_judge.specs.Waiting.{IsWaiting, is_walked}
use Rattle.zk_judge.specs.declared.conversations.Conversation.{Conversation}
use Rattle.zk_judge.specs.declared.conversations.Stage.{Stage}
use Rattle.zk_judge.specs.declared.conversations.Stage.TheVariants as stage
use Rattle.zk_judge.specs.declared.waits.Walked.{Walked}
use Rattle.zk_judge.specs.declared.waits.Walked.TheVariants as walk
use Rattle.zk_judge.specs.declared.walker.Party.{Party}

-- the state at some moment from `first` to `last` lets the connect be refused
abbrev pub MayBeRefused : List TranscriptLine → ℕ → ℕ → ConnectRequest → Type 0
MayBeRefused lines first last r = (m : ℕ) × (first ≤ m) × (m ≤ last) × IsTrue (may_refuse r (state_at lines m))

-- a packet, the only one that its connection is sent, is the refusal of the connect
abbrev pub IsRefusalOf : List TranscriptLine → ℕ → Due → Type 0
IsRefusalOf lines c p = IsRefused lines c p (placed_frame c 0 lines) (connect c lines)

-- the first packet of a connection is the welcome to its session, which stands in this state, and comes after the line at `place`
abbrev pub IsWelcomeTo : List TranscriptLine → Party → ℕ → Due → State → Type 0
IsWelcomeTo lines x place p s = IsWelcomed lines x.connection place x.session p (connect x.connection lines) (session_at x.session s)

-- the stage decides P, and waits for no moment before `from`; a stage that waits for an attachment is none of these
abbrev pub IsDeciding : List TranscriptLine → ℕ → Type 0 → Stage → Type 0
IsDeciding lines from P (stage.Attached place zxid session) = ⊥
IsDeciding lines from P (stage.Refused first last r) = (MayBeRefused lines first last r ↔ P) × (from ≤ first) × (first ≤ last) × (last ≤ length lines)
IsDeciding lines from P (stage.Walks w) = (IsTrue (is_walked lines w) ↔ P) × IsWaiting lines from w

-- the stage stands for the conversation of c, and waits for no moment before `from`
abbrev pub IsStaged : List TranscriptLine → ℕ → ℕ → Stage → Type 0
IsStaged lines from c (stage.Attached place zxid session) = (attach_of c lines ≡ Some (place, record { zxid = zxid; session = session })) × (from ≤ place + 1)
IsStaged lines from c (stage.Refused first last r) = IsDeciding lines from (IsLawfulAndFresh lines c) (stage.Refused first last r)
IsStaged lines from c (stage.Walks w) = IsDeciding lines from (IsLawfulAndFresh lines c) (stage.Walks w)

abbrev pub IsStanding : List TranscriptLine → ℕ → Conversation → Type 0
IsStanding lines from x = IsStaged lines from x.connection x.stage

-- a conversation, once every moment was looked at
abbrev pub StandsAtEnd : List TranscriptLine → Conversation → Type 0
StandsAtEnd lines = IsStanding lines (length lines + 1)

-- the moment that a stage waits for, where it waits for one
abbrev pub awaited_by : Walked → Option ℕ
awaited_by (walk.Ends b) = None
awaited_by (walk.Waits x) = Some x.first

abbrev pub awaited : Stage → Option ℕ
awaited (stage.Attached place zxid session) = Some (place + 1)
awaited (stage.Refused first last r) = Some first
awaited (stage.Walks w) = awaited_by w

abbrev pub connections : List Conversation → List ℕ
connections xs = map (λ (x : Conversation). x.connection) xs

-- the connection that a line opens
abbrev pub opened_by : TranscriptLine → Option ℕ
opened_by (Open c proxy id passwd layout) = Some c
opened_by _ = None

-- each connection that these lines open is there
abbrev pub AreOpened : List TranscriptLine → (ℕ → Type 0) → Type 0
AreOpened lines IsThere = (d : ℕ) → is_some (opening d lines) ≡ true → IsThere d

abbrev pub lesser_of : Option ℕ → ℕ → Option ℕ
lesser_of None c = Some c
lesser_of (Some n) c = if nat_le n c then Some n else Some c

-- None where no number of a list fails P, or one that fails, below which none of the list does
pub record IsLeastOf (P : ℕ → Type 0) (cs : List ℕ) (found : Option ℕ) : Type 0 where
  pub fails : IsFault P found
  pub passes : (d : ℕ) → Contains cs d → IsBelow d found → P d

-- the least of these connections whose conversation is not lawful and fresh, if there is one
abbrev pub IsLeastUnlawful : List TranscriptLine → List ℕ → Option ℕ → Type 0
IsLeastUnlawful lines = IsLeastOf (IsLawfulAndFresh lines)
