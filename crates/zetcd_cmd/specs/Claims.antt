-- What is claimed of a run.
use Rattle.std.specs.List.{AllByRecursion}
use Rattle.std.specs.Prelude.{List, length, true, ℕ, ◌≡◌, ◌≤◌}
use Rattle.zk_judge.specs.Verdicts.{IsVerdict}
use Rattle.zk_judge.specs.declared.verdict.Verdict.TheVariants.{Lawful}
use Rattle.zt_lines.specs.Readable.{FitsLine}
use Rattle.zk_transcript.specs.Conversations.{IsServed, IsShownFresh}
use Rattle.zk_transcript.specs.Legal.{IsPunctual, Tick, is_legal, is_ordered}
use Rattle.zk_transcript.specs.declared.transcript.TranscriptLine.{TranscriptLine}
use Rattle.zp_verdict_laws.specs.Written.{AreShort, IsJudgedLawful}
use Rattle.zt_text.specs.Scripts.{max_script}

pub record IsOneRun (ticks : List Tick) (lines : List TranscriptLine) : Type 0 where
  -- each update is one that the service could make in the state before it, in the order of the zxids
  pub legal : is_legal lines ≡ true
  -- each request is carried out at most once, and those of a connection in order
  pub ordered : is_ordered lines ≡ true
  -- the time of a request's update is one of the script's clock between its frame and itself
  pub punctual : IsPunctual ticks lines
  -- each frame's line shows the zxid of the last update before it
  pub shown : IsShownFresh lines
  -- each connection was sent first the answer to its connect, after a welcome a walk, and nothing after its close
  pub served : (c : ℕ) → IsServed lines c
  -- the verdict on its lines is lawful
  pub lawful : IsVerdict lines Lawful
  -- each field of each of its lines is in the range in which it is read
  pub fits : AllByRecursion FitsLine lines

-- Bytes that are read as these lines, and judged lawful, unless a line or all of them are longer than is read.
abbrev pub IsLawfulWithin : List ℕ → List TranscriptLine → Type 0
IsLawfulWithin bytes lines = AreShort lines → length bytes ≤ max_script → IsJudgedLawful bytes lines
