-- What one connection is sent (Programmer's Guide, "ZooKeeper Sessions", "ZooKeeper Watches", "Consistency Guarantees"): first the
-- answer to its connect, and after a welcome the packets of a walk from its attachment on.
use Rattle.std.specs.Prelude.{◌≡◌, ℕ, ℤ, ◌+◌, ◌<◌, ◌≤◌, Bool, true, List, [], ◌∷◌, drop, nat_lt, ◌==◌, Option, Some, None, slice_get, IsTrue, ⊤}
use Rattle.std.specs.List.{list_all}
use Rattle.zk_model.specs.declared.connect.ConnectRequest.{ConnectRequest}
use Rattle.zk_transcript.specs.declared.transcript.TranscriptLine.{TranscriptLine}
use Rattle.zk_transcript.specs.declared.transcript.TranscriptLine.TheVariants.{Frame as FrameLine, Close}
use Rattle.zk_jute.specs.Packets.{connect_packet}
use Rattle.zk_service.specs.States.{Session, session_at}
use Rattle.zk_transcript.specs.History.{state_at, first_place, when, opening, connect}
use Rattle.zk_transcript.specs.Legal.{Attachment, attach_of}
use Rattle.zk_transcript.specs.Walks.{Due, packets, placed_frame, IsFreshWalk, IsWalk}
use Rattle.zk_service.specs.Answers.{may_refuse, refusal, welcome}

-- ---- the answer to the connect

-- packet p stands after the line at k, which attached the session id, and is the welcome
abbrev pub IsWelcomed : List TranscriptLine → ℕ → ℕ → ℤ → Due → Option ConnectRequest → Option Session → Type 0
IsWelcomed lines c k id p (Some r) (Some x) = (k < p.0) × (p.1 ≡ connect_packet (welcome r id x))
IsWelcomed lines c k id p _ _ = ⊥

-- packet p is the refusal, and the state at some moment between the connect's line and the packet's lets it be refused
abbrev pub IsRefused : List TranscriptLine → ℕ → Due → Option (ℕ × List ℕ) → Option ConnectRequest → Type 0
IsRefused lines c p (Some f) (Some r) = (m : ℕ) × (f.0 < m) × (m ≤ p.0) × IsTrue (may_refuse r (state_at lines m)) × (p.1 ≡ connect_packet (refusal r))
IsRefused lines c p _ _ = ⊥

-- the first packet, if there is one, is the welcome after the attachment's line; where there is no attachment it is the refusal,
-- and the only packet
abbrev pub IsConnectAnswered : List TranscriptLine → ℕ → List Due → Option (ℕ × Attachment) → Type 0
IsConnectAnswered lines c [] o = ⊤
IsConnectAnswered lines c (p ∷ ps) None = IsRefused lines c p (placed_frame c 0 lines) (connect c lines) × (ps ≡ [])
IsConnectAnswered lines c (p ∷ ps) (Some a) = IsWelcomed lines c a.0 a.1.session p (connect c lines) (session_at a.1.session (state_at lines (a.0 + 1)))

-- ---- whole conversations, of every number that a connection may have

abbrev pub close_shown : ℕ → TranscriptLine → Option ℕ
close_shown c (Close connection end) = when (c == connection) connection
close_shown c _ = None

abbrev pub is_before : ℕ → Option (ℕ × ℕ) → Bool
is_before k None = true
is_before k (Some x) = nat_lt k x.0

-- no packet stands after the connection's close
abbrev pub are_before_close : List TranscriptLine → ℕ → Bool
are_before_close lines c = list_all (λ (p : Due). is_before p.0 (first_place (close_shown c) 0 lines)) (packets c lines)

-- a number that was never opened is sent nothing
abbrev pub IsSilentUnopened : List TranscriptLine → ℕ → Type 0
IsSilentUnopened lines c = opening c lines ≡ None → packets c lines ≡ []

-- what holds besides the walk: a number that was never opened is sent nothing, the first packet answers the connect, and no packet
-- stands after the close
pub record IsInConnection (lines : List TranscriptLine) (c : ℕ) : Type 0 where
  pub silent : IsSilentUnopened lines c
  pub connected : IsConnectAnswered lines c (packets c lines) (attach_of c lines)
  pub in_time : IsTrue (are_before_close lines c)

-- the packets after the first, which is the welcome
abbrev pub later_packets : ℕ → List TranscriptLine → List Due
later_packets c lines = drop 1 (packets c lines)

-- lawful and fresh: where c has an attachment, some fresh walk from there gives the packets after the welcome
pub record IsLawfulAndFresh (lines : List TranscriptLine) (c : ℕ) : Type 0 where
  pub within : IsInConnection lines c
  pub walks : (a : ℕ × Attachment) → attach_of c lines ≡ Some a → IsFreshWalk lines c a.1.session a.1.zxid (a.0 + 1) (later_packets c lines)

-- what the service gives a connection: lawful, fresh and in turn
pub record IsServed (lines : List TranscriptLine) (c : ℕ) : Type 0 where
  pub within : IsInConnection lines c
  pub walks : (a : ℕ × Attachment) → attach_of c lines ≡ Some a → IsWalk lines c a.1.session a.1.zxid (a.0 + 1) (later_packets c lines)

-- each frame's line shows the zxid of the last update before it
abbrev pub IsShownFresh : List TranscriptLine → Type 0
IsShownFresh lines = (k c i : ℕ) (z : ℤ) (bytes : List ℕ) → slice_get lines k ≡ Some (FrameLine c i z bytes) → z ≡ (state_at lines k).zxid
