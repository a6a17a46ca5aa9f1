-- What `show` says of a stream of bytes from a client to a server: one line for each frame, and how the stream ended (this
-- project's own format). It is said of the whole stream, and so is the same in whatever pieces the stream comes.
use Rattle.std.specs.Prelude.{◌≡◌, ℕ, ◌+◌, ◌==◌, Bool, true, false, ℤ, Option, Some, None, List, [], ◌∷◌, ◌++◌, length, take, flat_map, nat_lt, if◌then◌else◌, codes, decimal}
use Rattle.zk_jute.specs.Frames.{Framed, bad_length}
use Rattle.zt_show.specs.declared.ending.Ending.{Ending}
use Rattle.zt_show.specs.declared.ending.Ending.TheVariants as ending
use Rattle.zt_show.specs.FieldWords.{spaced_word, signed_word}
use Rattle.zt_show.specs.FrameLines.{line_of_frame}

-- the lines of frames, each with its line feed, and how the stream ended
pub record Shown : Type 0 where
  pub lines : List (List ℕ)
  pub ending : Ending

-- the lines as one text
abbrev pub joined : List (List ℕ) → List ℕ
joined lines = flat_map (λ line. line) lines

-- the most bytes of a stream that are shown
abbrev pub max_stream : ℕ
max_stream = 100000000

-- a word and a place
abbrev pub at_place : List ℕ → ℕ → List ℕ
at_place word place = word ++ spaced_word (decimal place)

-- the words of the last line
abbrev pub ending_words : Ending → List ℕ
ending_words (ending.End place) = at_place (codes "end") place
ending_words (ending.Cut place) = at_place (codes "cut") place
ending_words (ending.Length place n) = at_place (codes "length") place ++ signed_word n
ending_words (ending.NoHeader place) = at_place (codes "noheader") place
ending_words ending.Long = codes "long 100000000"

-- the last line, with its line feed (10)
abbrev pub ending_line : Ending → List ℕ
ending_line end = ending_words end ++ 10 ∷ []

-- the text that is written
abbrev pub shown_text : Shown → List ℕ
shown_text shown = joined shown.lines ++ ending_line shown.ending

-- how many lines it has
abbrev pub count_of_lines : Shown → ℕ
count_of_lines shown = length shown.lines + 1

-- ---- frames

-- what stands at this place is no whole frame: a length out of range, nothing, or `size` bytes of a frame with its length
abbrev pub ending_of_stream : ℕ → ℕ → Option ℤ → Ending
ending_of_stream place size (Some n) = ending.Length place n
ending_of_stream place size None = if size == 0 then ending.End place else ending.Cut (place + size)

abbrev pub ending_at : ℕ → List ℕ → Ending
ending_at place rest = ending_of_stream place (length rest) (bad_length rest)

-- a line before those of the later frames; a frame without a header ends them at its place
abbrev pub before : ℕ → Option (List ℕ) → Shown → Shown
before place None later = record { lines = []; ending = ending.NoHeader place }
before place (Some line) later = record { lines = line ∷ later.lines; ending = later.ending }

-- what is shown of the frames from this place on and of the rest after them. A frame's place is that of its length, which has
-- four bytes.
unfoldable pub shown_from : Bool → ℕ → List (List ℕ) → List ℕ → Shown
shown_from is_begun place [] rest = record { lines = []; ending = ending_at place rest }
shown_from is_begun place (frame ∷ frames) rest = before place (line_of_frame is_begun place frame) (shown_from true (place + 4 + length frame) frames rest)

-- ---- streams

-- this is shown of a stream, whatever its length
abbrev pub IsShownWhole : List ℕ → Shown → Type 0
IsShownWhole stream shown = (frames : List (List ℕ)) × (rest : List ℕ) × Framed stream frames rest × (shown ≡ shown_from false 0 frames rest)

-- how a stream ends that has more bytes than are shown: still at a length out of range or a frame without a header, else by
-- being too long
abbrev pub ending_before_more : Ending → Ending
ending_before_more (ending.Length place n) = ending.Length place n
ending_before_more (ending.NoHeader place) = ending.NoHeader place
ending_before_more _ = ending.Long

-- what is shown where there may be more bytes
abbrev pub before_more : Bool → Shown → Shown
before_more false shown = shown
before_more true shown = record { lines = shown.lines; ending = ending_before_more shown.ending }

-- this is shown of a stream: what its first 100,000,000 bytes say, and whether there are more
abbrev pub IsShown : List ℕ → Shown → Type 0
IsShown stream shown = (front : Shown) × IsShownWhole (take max_stream stream) front × (shown ≡ before_more (nat_lt max_stream (length stream)) front)
