-- What a replay of an input writes.
use Rattle.std.specs.Prelude.{◌≡◌, ◌⊎◌, ℕ, ◌+◌, ◌<◌, ◌≤◌, List, [], ◌∷◌, ◌++◌, length, Option, Some, None, Contains}
use Rattle.zt_text.specs.declared.script.Happening.{Happening}
use Rattle.zt_text.specs.declared.script.Why.{Why}
use Rattle.zt_text.specs.declared.script.Unread.{Unread}
use Rattle.zt_text.specs.Scripts.{script, IsWholeLines, max_line, max_script}
use Rattle.zt_text.specs.Transcripts.{transcript_text}
use Rattle.zt_text.specs.Faults.{why_text, unread_text, done_text, fault_text}
use Rattle.zk_transcript.specs.Legal.{Tick}
use Rattle.zp_script.specs.Runs.{Runs}
use Rattle.zp_script.specs.Worlds.{World}
use Rattle.zp_script.specs.Faults.{fault}
use Rattle.zetcd_cmd.specs.Claims.{IsLawfulWithin, IsOneRun}

-- The whole input is a script, and the output is the transcript of a run to which exactly its happenings were applied.
pub record IsReplayed (input output : List ℕ) : Type 0 where
  pub happenings : List Happening
  pub ticks : List Tick
  pub world : World
  pub read : script input ≡ (happenings, None)
  pub runs : Runs happenings ticks world
  pub one_run : IsOneRun ticks world.lines
  pub written : output ≡ transcript_text world.lines ++ done_text
  pub judged : IsLawfulWithin output world.lines

-- what stands against the next line: its happening isn't possible, or it can't be read
abbrev pub StandsAgainst : World → ℕ → List Happening → Option (ℕ × Unread) → List ℕ → Type 0
StandsAgainst w n (h ∷ hs) end text = (why : Why) × (fault w h ≡ Some why) × (text ≡ why_text why)
StandsAgainst w n [] end text = (u : Unread) × (end ≡ Some (n, u)) × (text ≡ unread_text u)

-- Line n of the input is the first that can't be read or isn't possible, and the output is the transcript of the lines
-- before it, with that fault.
pub record IsStopped (input output : List ℕ) (n : ℕ) : Type 0 where
  pub before : List Happening
  pub later : List Happening
  pub end : Option (ℕ × Unread)
  pub ticks : List Tick
  pub world : World
  pub read : script input ≡ (before ++ later, end)
  pub number : n ≡ length before + 1
  pub runs : Runs before ticks world
  pub one_run : IsOneRun ticks world.lines
  pub why : List ℕ
  pub because : StandsAgainst world n later end why
  pub written : output ≡ transcript_text world.lines ++ fault_text n why
  pub judged : IsLawfulWithin output world.lines

-- What was read of line n and of the input tells that this line is over: it has its line feed, or more bytes than a line may
-- have, or the input has more than a script may have.
pub record IsOver (read : List ℕ) (n : ℕ) : Type 0 where
  pub lines : List ℕ
  pub rest : List ℕ
  pub parts : read ≡ lines ++ rest
  pub whole : IsWholeLines lines
  pub happenings : List Happening
  pub says : script lines ≡ (happenings, None)
  pub number : n ≡ length happenings + 1
  pub over : ((line : List ℕ) × (later : List ℕ) × (rest ≡ line ++ 10 ∷ later)) ⊎ (max_line < length rest) ⊎ (max_script < length read)

-- The input couldn't be read further: the output is the transcript of the whole lines that were. What was read of the next line
-- and of the input is within the limits.
pub record IsCutShort (input output : List ℕ) : Type 0 where
  pub lines : List ℕ
  pub rest : List ℕ
  pub parts : input ≡ lines ++ rest
  pub whole : IsWholeLines lines
  pub begun : Contains rest 10 → ⊥
  pub short : length rest ≤ max_line
  pub room : length input ≤ max_script
  pub happenings : List Happening
  pub ticks : List Tick
  pub world : World
  pub read : script lines ≡ (happenings, None)
  pub runs : Runs happenings ticks world
  pub one_run : IsOneRun ticks world.lines
  pub written : output ≡ transcript_text world.lines
  pub judged : IsLawfulWithin output world.lines
