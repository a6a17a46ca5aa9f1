-- What the program read and wrote, by the status that it ends with.
use Rattle.std.specs.Prelude.{◌≡◌, ◌⊎◌, ⊤, ℕ, ◌+◌, ◌-◌, ◌^◌, ◌<◌, ◌≤◌, min, Bool, true, List, [], ◌∷◌, ◌++◌, length, codes, Option}
use denote.Ref.{Bor}
use Rattle.std.specs.Io.KnownBytes.{IsAtEnd}
use Rattle.zt_text.specs.Scripts.{max_script}
use Rattle.zetcd_cmd.specs.Judged.{Finds}
use Rattle.zetcd_cmd.specs.Replayed.{IsReplayed, IsStopped, IsCutShort, IsOver}
use Rattle.zt_show.specs.declared.ending.Ending.{Ending}
use Rattle.zt_show.specs.declared.ending.Ending.TheVariants as ending
use Rattle.zt_show.specs.Shown.{Shown, IsShown, joined, shown_text, count_of_lines}
use Rattle.zx_outside.specs.Counts.{InputCounts, one_more}
use Rattle.zx_outside.specs.Reading.{Gives}
use Rattle.zx_outside.specs.Writing.{Takes}
use Rattle.zetcd_cmd.specs.declared.status.Status.{Status}
use Rattle.zetcd_cmd.specs.declared.status.Status.TheVariants as status

-- the words are this one alone
abbrev pub IsWord : List ℕ → List (Bor (List ℕ)) → Type 0
IsWord name [] = ⊥
IsWord name (word ∷ []) = word.now ≡ name
IsWord name (word ∷ other ∷ words) = ⊥

-- the commands that are built
abbrev pub IsReplay : List (Bor (List ℕ)) → Type 0
IsReplay words = IsWord (codes "replay") words

abbrev pub IsShow : List (Bor (List ℕ)) → Type 0
IsShow words = IsWord (codes "show") words

abbrev pub IsJudge : List (Bor (List ℕ)) → Type 0
IsJudge words = IsWord (codes "judge") words

-- the words are none of these three, which alone read the input
abbrev pub UnlessReads : List (Bor (List ℕ)) → Type 0 → Type 0
UnlessReads words P = ¬ IsReplay words → ¬ IsShow words → ¬ IsJudge words → P

abbrev pub usage_text : List ℕ
usage_text = codes "usage: zetcd replay | show | stress NUMBER CONNECTIONS STEPS | serve LISTEN ENDPOINT LIMIT | etcd LISTEN LIMIT | judge\n"

-- What one call did: the input gave some bytes and the output took some, as far as the two tell, and this holds of them. In each
-- pair, what was told before the call comes first.
pub record Did (Holds : List ℕ → List ℕ → Type 0) (given given' left left' taken taken' : Option (List ℕ)) : Type 0 where
  pub read : List ℕ
  pub output : List ℕ
  pub gives : Gives read given given' left left'
  pub takes : Takes output taken taken'
  pub holds : Holds read output

-- What one call did, `Did`, by what its input and its output tell before and after it. `Holds` also knows whether the input has ended,
-- and what is left of it.
abbrev pub DidBetween : {I O : Type 0} → (I → Bool) → (I → Option (List ℕ)) → (I → Option (List ℕ)) → (O → Option (List ℕ))
    → (Bool → Option (List ℕ) → List ℕ → List ℕ → Type 0) → I → I → O → O → Type 0
DidBetween ended given left taken Holds input input' out out' =
    Did (Holds (ended input') (left input')) (given input) (given input') (left input) (left input') (taken out) (taken out')

-- the input has come to its end, and nothing of it is left
pub record IsAtItsEnd (has_ended : Bool) (unread : Option (List ℕ)) : Type 0 where
  pub ended : has_ended ≡ true
  pub left : IsAtEnd unread

-- the output is a front of what the command writes with some status
abbrev pub IsFront : (Status → List ℕ → Type 0) → List ℕ → Type 0
IsFront Writes output = (other : Status) × (whole : List ℕ) × (later : List ℕ) × Writes other whole × (whole ≡ output ++ later)

-- ---- replay

-- the bytes that were read settle a stop at this line: they tell that it is over, and no later byte changes what is written
pub record IsSettled (line : ℕ) (read output : List ℕ) : Type 0 where
  pub over : IsOver read line
  pub for_good : (rest : List ℕ) → IsStopped (read ++ rest) output line

-- the replay of the lines before this one, and why this one ended it; the whole input was read, or what was read settles it
pub record StopsAt (line : ℕ) (ended : Bool) (left : Option (List ℕ)) (read output : List ℕ) : Type 0 where
  pub stopped : IsStopped read output line
  pub settled : IsAtItsEnd ended left ⊎ IsSettled line read output

-- what a replay writes where the output has no fault and memory is not refused
abbrev pub ReplayWrites : Status → Bool → Option (List ℕ) → List ℕ → List ℕ → Type 0
ReplayWrites status.Done ended left read output = IsAtItsEnd ended left × IsReplayed read output
ReplayWrites (status.Script line) ended left read output = StopsAt line ended left read output
ReplayWrites status.ReadFault ended left read output = IsCutShort read output
ReplayWrites _ ended left read output = ⊥

-- the output is a front of the transcript of the whole lines of a front of what was read
pub record AreFirstLines (read output : List ℕ) : Type 0 where
  pub front : List ℕ
  pub later : List ℕ
  pub parts : read ≡ front ++ later
  pub transcript : List ℕ
  pub lines : IsCutShort front transcript
  pub rest : List ℕ
  pub written : transcript ≡ output ++ rest

-- A replay with this status read and wrote these bytes. With a fault of the output a front was written. With out of memory nothing
-- was; or lines that earlier bytes led to; or, where it came after all lines, a front.
abbrev pub Replays : Status → Bool → Option (List ℕ) → List ℕ → List ℕ → Type 0
Replays status.WriteFault ended left read output = IsFront (λ other whole. ReplayWrites other ended left read whole) output
Replays status.Memory ended left read output =
    (output ≡ []) ⊎ AreFirstLines read output ⊎ IsFront (λ other whole. ReplayWrites other ended left read whole) output
Replays s ended left read output = ReplayWrites s ended left read output

-- ---- show

-- it ended at a frame's end
abbrev pub IsEndStream : Ending → Type 0
IsEndStream (ending.End place) = ⊤
IsEndStream _ = ⊥

-- it ended inside a frame
abbrev pub IsCutStream : Ending → Type 0
IsCutStream (ending.Cut place) = ⊤
IsCutStream _ = ⊥

-- what is shown of the whole stream, which ends at a frame's end
pub record IsWholeStream (stream output : List ℕ) : Type 0 where
  pub shown : Shown
  pub is_shown : IsShown stream shown
  pub written : output ≡ shown_text shown
  pub end : IsEndStream shown.ending

-- what is shown of the stream, in so many lines, and it does not end at a frame's end; the whole input was read, or no later byte
-- changes what is shown
pub record IsBroken (line : ℕ) (ended : Bool) (left : Option (List ℕ)) (stream output : List ℕ) : Type 0 where
  pub shown : Shown
  pub is_shown : IsShown stream shown
  pub written : output ≡ shown_text shown
  pub number : line ≡ count_of_lines shown
  pub otherwise : ¬ IsEndStream shown.ending
  pub settled : IsAtItsEnd ended left ⊎ ((rest : List ℕ) → IsShown (stream ++ rest) shown)

-- the lines of the stream's whole frames; it ends at a frame's end or inside a frame
pub record IsBegun (stream output : List ℕ) : Type 0 where
  pub shown : Shown
  pub is_shown : IsShown stream shown
  pub written : output ≡ joined shown.lines
  pub goes_on : IsEndStream shown.ending ⊎ IsCutStream shown.ending

-- what a show writes where the output has no fault and memory is not refused
abbrev pub ShowWrites : Status → Bool → Option (List ℕ) → List ℕ → List ℕ → Type 0
ShowWrites status.Done ended left read output = IsAtItsEnd ended left × IsWholeStream read output
ShowWrites (status.Script line) ended left read output = IsBroken line ended left read output
ShowWrites status.ReadFault ended left read output = IsBegun read output
ShowWrites _ ended left read output = ⊥

-- A show with this status read and wrote these bytes. With a fault of the output a front was written, and out of memory
-- the lines of a front of what was read.
abbrev pub Shows : Status → Bool → Option (List ℕ) → List ℕ → List ℕ → Type 0
Shows status.WriteFault ended left read output = IsFront (λ other whole. ShowWrites other ended left read whole) output
Shows status.Memory ended left read output = (front : List ℕ) × (later : List ℕ) × (read ≡ front ++ later) × IsBegun front output
Shows s ended left read output = ShowWrites s ended left read output

-- ---- judge

-- What a judgement writes where the output has no fault and memory is not refused: what is found of the whole input; of a line that
-- can't be read, where the whole input was read, or more of it than a transcript may have; nothing after a fault of the input.
abbrev pub JudgeWrites : Status → Bool → Option (List ℕ) → List ℕ → List ℕ → Type 0
JudgeWrites status.Done ended left read output = IsAtItsEnd ended left × Finds status.Done read output
JudgeWrites status.Unlawful ended left read output = IsAtItsEnd ended left × Finds status.Unlawful read output
JudgeWrites (status.Script line) ended left read output =
    (IsAtItsEnd ended left ⊎ (max_script < length read)) × Finds (status.Script line) read output
JudgeWrites status.ReadFault ended left read output = output ≡ []
JudgeWrites _ ended left read output = ⊥

-- A judgement with this status read and wrote these bytes. With a fault of the output a front was written, and out of memory
-- nothing.
abbrev pub Judges : Status → Bool → Option (List ℕ) → List ℕ → List ℕ → Type 0
Judges status.WriteFault ended left read output = IsFront (λ other whole. JudgeWrites other ended left read whole) output
Judges status.Memory ended left read output = output ≡ []
Judges s ended left read output = JudgeWrites s ended left read output

-- ---- other words

-- some front of these bytes was written, perhaps nothing or all
abbrev pub TakesSome : List ℕ → Option (List ℕ) → Option (List ℕ) → Type 0
TakesSome whole taken taken' = (output : List ℕ) × (later : List ℕ) × (whole ≡ output ++ later) × Takes output taken taken'

-- the usage was written, or a front of it
abbrev pub RefusesWords : Status → Option (List ℕ) → Option (List ℕ) → Type 0
RefusesWords status.Usage taken taken' = Takes usage_text taken taken'
RefusesWords status.WriteFault taken taken' = TakesSome usage_text taken taken'
RefusesWords _ taken taken' = ⊥

-- ---- faults

-- this many idle turns of the input are a fault
abbrev pub patience : ℕ
patience = 1000

-- the input had no fault, and fewer than `patience` idle turns
pub record IsUnharmed (before now : InputCounts) : Type 0 where
  pub faults : now.faults ≡ before.faults
  pub idles : now.idles < before.idles + patience

-- the input had one fault, and fewer than `patience` idle turns
pub record HadFault (before now : InputCounts) : Type 0 where
  pub faults : now.faults ≡ one_more before.faults
  pub idles : now.idles < before.idles + patience

-- the input had no fault, and `patience` idle turns: no fewer, unless their count came to its end at 2^64 - 1, and no more
pub record WasIdle (before now : InputCounts) : Type 0 where
  pub faults : now.faults ≡ before.faults
  pub least : min (before.idles + patience) (2 ^ 64 - 1) ≤ now.idles
  pub most : now.idles ≤ before.idles + patience

-- the input had one fault, or as many idle turns as are a fault
abbrev pub Failed : InputCounts → InputCounts → Type 0
Failed before now = HadFault before now ⊎ WasIdle before now

-- the number that the process ends with
abbrev pub status_number : Status → ℕ
status_number status.Done = 0
status_number status.Usage = 2
status_number (status.Script line) = 3
status_number status.ReadFault = 4
status_number status.WriteFault = 5
status_number status.Net = 6
status_number status.Memory = 7
status_number status.Unlawful = 8
status_number (status.Feed end) = 10
