-- The laws of transcripts without a fault.
use Rattle.std.specs.Prelude.{◌≡◌, ◌+◌, ◌≤ℤ◌, true, ℕ, ℤ, pos, List, Some, None, length, slice_get, take}
use Rattle.zk_service.specs.declared.update.UpdateRec.{UpdateRec}
use Rattle.zk_transcript.specs.declared.transcript.TranscriptLine.TheVariants.{Update}
use Rattle.zk_service.specs.declared.update.UpdateKind.TheVariants.{Asked}
use Rattle.zk_service.specs.States.{Commit, Session, session_at}
use Rattle.zk_transcript.specs.History.{asked_commit, state_at}
use Rattle.zk_transcript.specs.Conversations.{IsShownFresh, IsSilentUnopened}
use Rattle.zk_transcript.specs.declared.transcript.TranscriptLine.{TranscriptLine}
use Rattle.zk_transcript.specs.Legal.{is_legal, is_ordered}
use Rattle.zk_history.specs.Fits.{AllFit}
use Rattle.zk_legal.specs.Faults.{history_fault, order_fault}
use Rattle.zk_legal.specs.Passwords.{OfferPasswords}
use Rattle.zk_legal.specs.Short.{AreShort, IsShortBody}

-- a transcript without a fault of its history has a legal history
abbrev pub LinesWithoutFaultAreLegal : Type 0
LinesWithoutFaultAreLegal = (lines : List TranscriptLine) → history_fault lines ≡ None → is_legal lines ≡ true

-- a transcript without a fault of its order carries out each connection's requests in order
abbrev pub LinesInOrderAreOrdered : Type 0
LinesInOrderAreOrdered = (lines : List TranscriptLine) → order_fault lines ≡ None → is_ordered lines ≡ true

-- without a fault of the history no zxid is below 0
abbrev pub LinesWithoutFaultHaveZxids : Type 0
LinesWithoutFaultHaveZxids = (lines : List TranscriptLine) → history_fault lines ≡ None → (k : ℕ) (u : UpdateRec)
    → slice_get lines k ≡ Some (Update u) → pos 0 ≤ℤ u.zxid

-- without a fault of the history each frame shows the zxid of the last update before it
abbrev pub FramesWithoutFaultAreFresh : Type 0
FramesWithoutFaultAreFresh = (lines : List TranscriptLine) → history_fault lines ≡ None → IsShownFresh lines

-- without a fault of the history nothing is sent to a connection that was never opened
abbrev pub UnopenedConnectionsAreSilent : Type 0
UnopenedConnectionsAreSilent = (lines : List TranscriptLine) (c : ℕ) → history_fault lines ≡ None → IsSilentUnopened lines c

-- without a fault of the history each number is within its field: the counts of the tree, the times, and the sizes of requests
abbrev pub NumbersWithoutFaultFit : Type 0
NumbersWithoutFaultFit = (lines : List TranscriptLine) → history_fault lines ≡ None → AllFit lines

-- without a fault of the history each open session has a password of 16 bytes, where each password offered has 16
abbrev pub SessionsWithoutFaultHavePasswords : Type 0
SessionsWithoutFaultHavePasswords = (lines : List TranscriptLine) (moment : ℕ) (id : ℤ) (x : Session) → history_fault lines ≡ None
    → OfferPasswords lines → session_at id (state_at lines moment) ≡ Some x → length x.passwd ≡ 16

-- without a fault of the history the paths that watches see of an update are short
abbrev pub TriggersWithoutFaultAreShort : Type 0
TriggersWithoutFaultAreShort = (lines : List TranscriptLine) (k : ℕ) (u : UpdateRec) → history_fault lines ≡ None
    → slice_get lines k ≡ Some (Update u) → AreShort (state_at lines (k + 1)).triggers

-- without a fault of the history the reply to an update's request is short
abbrev pub ResponsesWithoutFaultAreShort : Type 0
ResponsesWithoutFaultAreShort = (lines : List TranscriptLine) (k c i now : ℕ) (u : UpdateRec) (x : Commit) → history_fault lines ≡ None
    → slice_get lines k ≡ Some (Update u) → u.kind ≡ Asked c i now
    → asked_commit (take k lines) (state_at lines k) u.zxid c i now ≡ Some x → IsShortBody x.response
