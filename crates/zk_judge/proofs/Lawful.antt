-- Conversations by their least walk, where the history has no fault.
use Rattle.std.proofs.Common.{◌≡◌, ℕ, ◌+◌, List, [], Option, Some, None, refl, drop}
use Rattle.std.specs.Prelude.{is_some, IsTrue}
use Rattle.zk_transcript.specs.declared.transcript.TranscriptLine.{TranscriptLine}
use Rattle.zk_transcript.specs.History.{opening}
use Rattle.zk_transcript.specs.Legal.{Attachment, attach_of, is_legal}
use Rattle.zk_transcript.specs.Walks.{Due, packets}
use Rattle.zk_transcript.specs.Conversations.{IsConnectAnswered, IsLawfulAndFresh, are_before_close, later_packets}
use Rattle.zk_least.specs.LeastWalk.{HasZxids, least_walk, least_from}
use Rattle.zk_least.proofs.LeastWalkLaw.{conversation-law}
use Rattle.zk_legal.specs.Faults.{history_fault}
use Rattle.zk_legal.proofs.NoFault.{history_fault-none}
use Rattle.zk_legal.proofs.WithoutFault.{unopened-silent, zxids-range}

pub legal-when : (lines : List TranscriptLine) → history_fault lines ≡ None → IsTrue (is_legal lines)
legal-when lines none = history_fault-none lines none

pub zxids-when : (lines : List TranscriptLine) → history_fault lines ≡ None → HasZxids lines
zxids-when lines none = zxids-range lines none

pub record IsJudged (lines : List TranscriptLine) (c : ℕ) : Type 0 where
  pub in_time : IsTrue (are_before_close lines c)
  pub connected : IsConnectAnswered lines c (packets c lines) (attach_of c lines)
  pub walks : (a : ℕ × Attachment) → attach_of c lines ≡ Some a → IsTrue (is_some (least_walk lines c a.1.session a.1.zxid (a.0 + 1) (later_packets c lines)))

pub lawful-when : (lines : List TranscriptLine) (c : ℕ) → history_fault lines ≡ None → IsJudged lines c → IsLawfulAndFresh lines c
lawful-when lines c none j =
    (conversation-law lines c (legal-when lines none) (zxids-when lines none)).sound
    (record { within = record { silent = unopened-silent lines c none; connected = j.connected; in_time = j.in_time }; walks = j.walks })

pub judged-when : (lines : List TranscriptLine) (c : ℕ) → history_fault lines ≡ None → IsLawfulAndFresh lines c → IsJudged lines c
judged-when lines c none lawful =
    let least = (conversation-law lines c (legal-when lines none) (zxids-when lines none)).complete lawful in
    record { in_time = least.within.in_time; connected = least.within.connected; walks = least.walks }

-- a connection that was sent nothing

nothing-walked : (lines : List TranscriptLine) (c : ℕ) (a : ℕ × Attachment) (ps : List Due) → ps ≡ [] → IsTrue (is_some (least_walk lines c a.1.session a.1.zxid (a.0 + 1) (drop 1 ps)))
unfolding least_from
nothing-walked lines c a ps none = rw none refl

nothing-answered : (lines : List TranscriptLine) (c : ℕ) (ps : List Due) (o : Option (ℕ × Attachment)) → ps ≡ [] → IsConnectAnswered lines c ps o
nothing-answered lines c ps o none = rw none tt

pub silent-lawful : (lines : List TranscriptLine) (c : ℕ) → history_fault lines ≡ None → packets c lines ≡ [] → IsLawfulAndFresh lines c
silent-lawful lines c none silent =
    lawful-when lines c none (record {
      in_time = rw silent refl;
      connected = nothing-answered lines c (packets c lines) (attach_of c lines) silent;
      walks = λ a at. nothing-walked lines c a (packets c lines) silent;
    })

pub unopened-lawful : (lines : List TranscriptLine) (c : ℕ) → history_fault lines ≡ None → opening c lines ≡ None → IsLawfulAndFresh lines c
unopened-lawful lines c none unopened = silent-lawful lines c none (unopened-silent lines c none unopened)
