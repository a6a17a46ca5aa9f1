-- A stream that comes piece by piece: what of it was shown, and what a piece adds.
use Rattle.std.specs.Prelude.{◌≡◌, ℕ, ◌+◌, ◌≤◌, Bool, true, false, Option, Some, None, List, [], ◌++◌, length, sum_by}
use Rattle.zk_jute.specs.Frames.{Framed, bad_length}
use Rattle.zk_wire.specs.Putting.{counted}
use Rattle.zt_show.specs.declared.ending.Ending.{Ending}
use Rattle.zt_show.specs.declared.ending.Ending.TheVariants as ending
use Rattle.zt_show.specs.declared.progress.Progress.{Progress}
use Rattle.zt_show.specs.Shown.{Shown, joined, max_stream, ending_line, shown_from, IsShown, IsShownWhole, ending_before_more}

-- what is kept of a stream that came in part: the bytes of a frame that is not whole, how far it is shown, and whether memory
-- was refused
pub record Showing : Type 0 where
  pub rest : List ℕ
  pub progress : Progress
  pub has_failed : Bool

-- a stream of which nothing came
abbrev pub unshown : Showing
unshown = record { rest = []; progress = record { is_begun = false; place = 0; room = max_stream; lines = 0 }; has_failed = false }

-- lines that were shown before, and then what is shown later
abbrev pub with_first : List (List ℕ) → Shown → Shown
with_first lines later = record { lines = lines ++ later.lines; ending = later.ending }

-- what is shown of later frames, from here on
abbrev pub shown_on : Progress → List (List ℕ) → List ℕ → Shown
shown_on p later rest = shown_from p.is_begun p.place later rest

-- these bytes came; their whole frames have these lines, whatever comes after them, and nothing in them ends the stream
pub record ShowingFollows (seen : List ℕ) (lines : List (List ℕ)) (s : Showing) : Type 0 where
  pub frames : List (List ℕ)
  pub framed : Framed seen frames s.rest
  pub good : bad_length s.rest ≡ None
  pub says : (later : List (List ℕ)) (rest : List ℕ) → shown_from false 0 (frames ++ later) rest ≡ with_first lines (shown_on s.progress later rest)
  pub place : s.progress.place + length s.rest ≡ length seen
  pub count : s.progress.lines ≡ length lines
  pub few : s.progress.lines ≤ s.progress.place
  pub room : length seen + s.progress.room ≡ max_stream

-- this is shown of the stream
abbrev pub IsShownAs : List ℕ → List (List ℕ) → Ending → Type 0
IsShownAs stream lines end = IsShown stream (record { lines = lines; ending = end })

-- this is shown of the stream, and so many lines were added, the last included
pub record ShowingEnds (stream : List ℕ) (lines : List (List ℕ)) (end : Ending) (added : ℕ) : Type 0 where
  pub shown : IsShownAs stream lines end
  pub count : added ≡ length lines + 1

-- ---- what a piece adds

-- the lines of the frames that became whole, and the last line where the stream ends in the piece, whatever comes after it: at a
-- length out of range, at a frame without a header, or by being too long
abbrev pub Adds : Option Ending → Showing → List ℕ → List ℕ → List ℕ → Showing → Type 0
Adds None old piece text text' new =
    (added : List (List ℕ)) × (text' ≡ text ++ joined added) × ((seen : List ℕ) (lines : List (List ℕ)) → ShowingFollows seen lines old → ShowingFollows (seen ++ piece) (lines ++ added) new)
Adds (Some end) old piece text text' new =
    (added : List (List ℕ)) × (text' ≡ text ++ (joined added ++ ending_line end))
    × ((seen more : List ℕ) (lines : List (List ℕ)) → ShowingFollows seen lines old → ShowingEnds ((seen ++ piece) ++ more) (lines ++ added) end new.progress.lines × (ending_before_more end ≡ end))

-- the last line, where the stream ends after what came
abbrev pub ShowingFinishes : Ending → Showing → List ℕ → List ℕ → Showing → Type 0
ShowingFinishes end old text text' new =
    (text' ≡ text ++ ending_line end) × ((seen : List ℕ) (lines : List (List ℕ)) → ShowingFollows seen lines old → ShowingEnds seen lines end new.progress.lines)

-- ---- frames

-- the bytes of frames, with their lengths
abbrev pub size_of : List (List ℕ) → ℕ
size_of frames = sum_by (λ (frame : List ℕ). 4 + length frame) frames

-- how far a stream is shown after a frame of so many bytes, which has a line
abbrev pub passed : Progress → ℕ → Progress
passed p size = record { is_begun = true; place = counted (counted (p.place + 4) + size); room = p.room; lines = counted (p.lines + 1) }

-- each of the frames has a line; these are the lines, and they lead from the one progress to the other
pub record FramesPass (frames added : List (List ℕ)) (old new : Progress) : Type 0 where
  pub says : (later : List (List ℕ)) (rest : List ℕ) → shown_on old (frames ++ later) rest ≡ with_first added (shown_on new later rest)
  pub place : new.place ≡ old.place + size_of frames
  pub count : new.lines ≡ old.lines + length added
  pub few : new.lines ≤ new.place

-- the first frame that has no line ends what is shown; these are the lines before it
pub record Blocks (frames added : List (List ℕ)) (old new : Progress) : Type 0 where
  pub says : (later : List (List ℕ)) (rest : List ℕ) → shown_on old (frames ++ later) rest ≡ record { lines = added; ending = ending.NoHeader new.place }
  pub count : new.lines ≡ old.lines + length added
  pub few : new.lines ≤ max_stream

-- by whether all frames have a line
abbrev pub PassesIf : Bool → List (List ℕ) → List (List ℕ) → Progress → Progress → Type 0
PassesIf true frames added old new = FramesPass frames added old new
PassesIf false frames added old new = Blocks frames added old new

-- the lines of the frames were added, up to one without a header
abbrev pub AddsLines : Bool → List (List ℕ) → Progress → List ℕ → List ℕ → Progress → Type 0
AddsLines are_all frames old text text' new =
    (added : List (List ℕ)) × (text' ≡ text ++ joined added) × (new.room ≡ old.room)
    × (old.lines ≤ old.place → old.place + size_of frames ≤ max_stream → PassesIf are_all frames added old new)

-- ---- within the limit

-- the stream ended in these bytes: nothing that comes after them changes what is shown
pub record ShowingStops (seen : List ℕ) (lines : List (List ℕ)) (end : Ending) (p : Progress) : Type 0 where
  pub shown : (more : List ℕ) → IsShownWhole (seen ++ more) (record { lines = lines; ending = end })
  pub stays : ending_before_more end ≡ end
  pub count : p.lines ≡ length lines
  pub few : p.lines ≤ max_stream
  pub room : length seen + p.room ≡ max_stream

-- what came so far goes on, or ended
abbrev pub ShowingStands : Option Ending → List ℕ → List (List ℕ) → Showing → Type 0
ShowingStands None seen lines s = ShowingFollows seen lines s
ShowingStands (Some end) seen lines s = ShowingStops seen lines end s.progress

-- a stream without a refusal of memory
abbrev pub showing : List ℕ → Progress → Showing
showing rest progress = record { rest = rest; progress = progress; has_failed = false }

-- the lines of the frames that became whole were added, without a last line; what came goes on, or ended
abbrev pub AddsFrames : Option Ending → Showing → List ℕ → List ℕ → List ℕ → Showing → Type 0
AddsFrames found old bytes text text' new =
    (added : List (List ℕ)) × (text' ≡ text ++ joined added) × ((seen : List ℕ) (lines : List (List ℕ)) → ShowingFollows seen lines old → ShowingStands found (seen ++ bytes) (lines ++ added) new)

-- the ending that was found, or that the stream is too long
abbrev pub long_unless : Option Ending → Ending
long_unless (Some end) = end
long_unless None = ending.Long
