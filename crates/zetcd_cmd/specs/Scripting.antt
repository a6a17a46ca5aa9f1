-- A script that comes piece by piece: what of it was read and applied, and what ended it.
use Rattle.std.specs.Prelude.{◌≡◌, ℕ, ◌+◌, ◌<◌, ◌≤◌, Bool, false, ◌==◌, List, [], ◌∷◌, ◌++◌, length, Option, Some, None, All}
use Rattle.zk_transcript.specs.declared.transcript.TranscriptLine.{TranscriptLine}
use Rattle.zt_text.specs.declared.script.Happening.{Happening}
use Rattle.zt_text.specs.declared.script.Unread.{Unread}
use Rattle.zt_text.specs.declared.script.Unread.TheVariants.{Unreadable}
use Rattle.zt_text.specs.Scripts.{Script as Reading, happenings_from, pieces, script, happening_read, max_line, max_script}
use Rattle.zt_text.specs.Scripts.{IsWholeLines}
use Rattle.zp_script.specs.Worlds.{World}
use Rattle.zp_script.specs.Faults.{fault}
use Rattle.zetcd_cmd.specs.Reached.{Reached}
use Rattle.zetcd_cmd.specs.Replayed.{IsOver, StandsAgainst}
use Rattle.zetcd_cmd.specs.Reporting.{stop_text}
use Rattle.zetcd_cmd.specs.declared.script.Script.{Script}
use Rattle.zetcd_cmd.specs.declared.script.Stop.{Stop}
use Rattle.zetcd_cmd.specs.declared.script.Stop.TheVariants as stop

abbrev pub HasNoLineFeed : List ℕ → Type 0
HasNoLineFeed bytes = All (λ b. (b == 10) ≡ false) bytes

-- bytes up to the first line feed, and the bytes after it
abbrev pub IsFirstLine : List ℕ → List ℕ → List ℕ → Type 0
IsFirstLine bytes line later = (bytes ≡ line ++ 10 ∷ later) × HasNoLineFeed line

-- ---- one line

-- the transcript was only added to
abbrev pub Appends : World → World → Type 0
Appends w w' = (more : List TranscriptLine) × (w'.lines ≡ w.lines ++ more)

-- the line was read, and what it says was applied
abbrev pub Plays : List ℕ → World → World → Type 0
Plays line w w' =
    Appends w w' × ((happenings : List Happening) → Reached happenings w → (h : Happening) × (happening_read line ≡ Some h) × Reached (happenings ++ h ∷ []) w')

-- the line can't be read, or what it says isn't possible, and the world is as before; where memory was refused, nothing is said
abbrev pub ScriptHalts : List ℕ → World → Stop → World → Type 0
ScriptHalts line w (stop.Unread why) w' = (why ≡ Unreadable) × (happening_read line ≡ None) × (w' ≡ w)
ScriptHalts line w (stop.Refused why) w' = (h : Happening) × (happening_read line ≡ Some h) × (fault w h ≡ Some why) × (w' ≡ w)
ScriptHalts line w stop.Memory w' = Unit {0}

-- the line is too long to be kept, or memory was refused
abbrev pub IsKeptOut : List ℕ → Stop → Type 0
IsKeptOut line (stop.Unread why) = (why ≡ Unreadable) × (max_line < length line)
IsKeptOut line (stop.Refused why) = ⊥
IsKeptOut line stop.Memory = Unit {0}

-- ---- the script so far

-- what was said before, and then what is read of the rest
abbrev pub with_first : List Happening → Reading → Reading
with_first happenings later = (happenings ++ later.0, later.1)

-- these bytes are whole lines that say these happenings, whatever follows them
pub record ScriptSays (lines : List ℕ) (happenings : List Happening) : Type 0 where
  pub says : (is_cut : Bool) (rest : List ℕ) → happenings_from is_cut 1 (pieces 10 (lines ++ rest)) ≡ with_first happenings (happenings_from is_cut (length happenings + 1) (pieces 10 rest))
  pub whole : IsWholeLines lines
  pub many : length happenings ≤ length lines

-- these bytes were read: each whole line of them was applied, and the line that is pending has no line feed yet
pub record HasRead (seen : List ℕ) (s : Script) : Type 0 where
  pub lines : List ℕ
  pub happenings : List Happening
  pub says : ScriptSays lines happenings
  pub parts : seen ≡ lines ++ s.pending.items
  pub begun : HasNoLineFeed s.pending.items
  pub short : length s.pending.items ≤ max_line
  pub number : s.line ≡ length happenings + 1
  pub reached : Reached happenings s.world

-- these bytes were read, and the script may have as many more as its room says
pub record ScriptStands (seen : List ℕ) (s : Script) : Type 0 where
  pub read : HasRead seen s
  pub room : length seen + s.room ≡ max_script

-- ---- how a script ends

-- the whole input was applied
pub record IsApplied (input : List ℕ) (s : Script) : Type 0 where
  pub happenings : List Happening
  pub reached : Reached happenings s.world
  pub read : script input ≡ (happenings, None)

-- the lines before the next were applied, and this stands against the next
pub record IsHalted (input : List ℕ) (s : Script) (why : Stop) : Type 0 where
  pub before : List Happening
  pub later : List Happening
  pub end : Option (ℕ × Unread)
  pub reached : Reached before s.world
  pub number : s.line ≡ length before + 1
  pub read : script input ≡ (before ++ later, end)
  pub against : StandsAgainst s.world s.line later end (stop_text why)

-- the lines before the next were applied, and this stands against the next; where memory was refused, nothing is said
abbrev pub ScriptEnds : List ℕ → Script → Stop → Type 0
ScriptEnds input s (stop.Unread why) = IsHalted input s (stop.Unread why)
ScriptEnds input s (stop.Refused why) = IsHalted input s (stop.Refused why)
ScriptEnds input s stop.Memory = Unit {0}

-- the script ends so whatever follows these bytes, and they tell that its line is over; where memory was refused, nothing is said
abbrev pub EndsEarly : List ℕ → Script → Stop → Type 0
EndsEarly read s (stop.Unread why) = ((rest : List ℕ) → ScriptEnds (read ++ rest) s (stop.Unread why)) × IsOver read s.line
EndsEarly read s (stop.Refused why) = ((rest : List ℕ) → ScriptEnds (read ++ rest) s (stop.Refused why)) × IsOver read s.line
EndsEarly read s stop.Memory = Unit {0}

-- these bytes tell that the line that wasn't applied is over; where memory was refused, nothing is said
abbrev pub IsOverAt : List ℕ → Script → Stop → Type 0
IsOverAt read s (stop.Unread why) = IsOver read s.line
IsOverAt read s (stop.Refused why) = IsOver read s.line
IsOverAt read s stop.Memory = Unit {0}
