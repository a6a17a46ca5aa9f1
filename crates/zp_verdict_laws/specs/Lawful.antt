-- The verdict on the transcript of a run: a script's lines, each possible where it stands, lead from the first world to it.
use Rattle.std.specs.Prelude.{All, List, length, ℕ, ◌<◌}
use Rattle.zk_judge.specs.Verdicts.{IsVerdict}
use Rattle.zk_judge.specs.declared.verdict.Verdict.TheVariants.{Lawful}
use Rattle.zk_legal.specs.Formed.{frames_of}
use Rattle.zk_transcript.specs.Legal.{Tick}
use Rattle.zk_transcript.specs.declared.transcript.TranscriptLine.{TranscriptLine}
use Rattle.zp_script.specs.Runs.{Runs}
use Rattle.zp_script.specs.Worlds.{World}
use Rattle.zp_step.specs.Stages.{max_count}
use Rattle.zp_world_laws.specs.Accounting.{IsWithinCounts, OffersSession}
use Rattle.zt_text.specs.declared.script.Happening.{Happening}

-- Each connection has fewer than 2^64 - 1 lines of frames, so each frame can have a number of its own. A frame that comes at once
-- with one that closes its connection has a line too, though it is never handed in.
pub record AreCounted (lines : List TranscriptLine) : Type 0 where
  pub frames : (c : ℕ) → frames_of c lines < max_count

-- the frames are so counted where there are fewer than 2^64 - 1 lines at all
abbrev pub FewLinesAreCounted : Type 0
FewLinesAreCounted = (lines : List TranscriptLine) → length lines < max_count → AreCounted lines

-- in each run whose frames are so counted, no connection was handed more frames than can be counted
abbrev pub LinesCountFrames : Type 0
LinesCountFrames = (hs : List Happening) (ticks : List Tick) (w : World) → Runs hs ticks w → AreCounted w.lines → IsWithinCounts w

-- the verdict on the lines of each run is lawful, where each connection offers a session's number and a password in their ranges
-- and the frames are so counted
abbrev pub EveryReplayIsLawful : Type 0
EveryReplayIsLawful = (hs : List Happening) (ticks : List Tick) (w : World) → All OffersSession hs → AreCounted w.lines → Runs hs ticks w → IsVerdict w.lines Lawful
