-- What a judgement of an input writes.
use Rattle.std.specs.Prelude.{◌≡◌, ℕ, List, [], ◌∷◌, ◌++◌, codes, decimal, Some, None}
use Rattle.zk_transcript.specs.declared.transcript.TranscriptLine.{TranscriptLine}
use Rattle.zk_judge.specs.declared.verdict.Verdict.{Verdict}
use Rattle.zk_judge.specs.declared.verdict.Verdict.TheVariants.{Lawful, History, Order, Conversation}
use Rattle.zk_judge.specs.Verdicts.{IsVerdict}
use Rattle.zt_lines.specs.Transcripts.{transcript}
use Rattle.zt_text.specs.declared.script.Unread.TheVariants.{Unreadable}
use Rattle.zt_text.specs.Faults.{fault_text, unread_text}
use Rattle.zetcd_cmd.specs.declared.status.Status.{Status}
use Rattle.zetcd_cmd.specs.declared.status.Status.TheVariants as status

-- some words and a number, as a line
abbrev pub numbered_text : List ℕ → ℕ → List ℕ
numbered_text words n = words ++ decimal n ++ 10 ∷ []

-- a verdict in words
abbrev pub verdict_text : Verdict → List ℕ
verdict_text Lawful = codes "lawful\n"
verdict_text (History n) = numbered_text (codes "unlawful history ") n
verdict_text (Order n) = numbered_text (codes "unlawful order ") n
verdict_text (Conversation c) = numbered_text (codes "unlawful connection ") c

abbrev pub status_on : Verdict → Status
status_on Lawful = status.Done
status_on (History n) = status.Unlawful
status_on (Order n) = status.Unlawful
status_on (Conversation c) = status.Unlawful

-- the text is a transcript, this is the verdict on its lines, and the output says so
pub record IsJudged (text output : List ℕ) (v : Verdict) : Type 0 where
  pub lines : List TranscriptLine
  pub read : transcript text ≡ (lines, None)
  pub is : IsVerdict lines v
  pub written : output ≡ verdict_text v

-- line n of the text is the first that can't be read, and the output says so
pub record IsUnreadable (n : ℕ) (text output : List ℕ) : Type 0 where
  pub first : (transcript text).1 ≡ Some n
  pub written : output ≡ fault_text n (unread_text Unreadable)

-- what is found of a text, by the status
abbrev pub Finds : Status → List ℕ → List ℕ → Type 0
Finds status.Done text output = IsJudged text output Lawful
Finds status.Unlawful text output = (v : Verdict) × (¬ (v ≡ Lawful)) × IsJudged text output v
Finds (status.Script n) text output = IsUnreadable n text output
Finds _ text output = ⊥
