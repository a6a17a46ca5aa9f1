-- The verdict on a transcript: lawful, or the first thing that shows that the service could not have made it.
use Rattle.std.specs.Prelude.{◌≡◌, ◌<◌, ℕ, List, Some, None}
use Rattle.zk_transcript.specs.declared.transcript.TranscriptLine.{TranscriptLine}
use Rattle.zk_transcript.specs.Conversations.{IsLawfulAndFresh}
use Rattle.zk_legal.specs.Faults.{history_fault, order_fault}
use Rattle.zk_judge.specs.declared.verdict.Verdict.{Verdict}
use Rattle.zk_judge.specs.declared.verdict.Verdict.TheVariants.{Lawful, History, Order, Conversation}

-- no line is one that no run can have written there, and each connection's requests are carried out in order
pub record IsRun (lines : List TranscriptLine) : Type 0 where
  pub history : history_fault lines ≡ None
  pub order : order_fault lines ≡ None

-- A fault of the history comes first, then one of the order, then the least connection whose conversation is not lawful and fresh.
abbrev pub IsVerdict : List TranscriptLine → Verdict → Type 0
IsVerdict lines Lawful = IsRun lines × ((c : ℕ) → IsLawfulAndFresh lines c)
IsVerdict lines (History n) = history_fault lines ≡ Some n
IsVerdict lines (Order n) = (history_fault lines ≡ None) × (order_fault lines ≡ Some n)
IsVerdict lines (Conversation c) = IsRun lines × (IsLawfulAndFresh lines c → ⊥) × ((d : ℕ) → d < c → IsLawfulAndFresh lines d)
