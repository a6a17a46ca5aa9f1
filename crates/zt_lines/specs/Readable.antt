-- Which lines of a transcript are read back as they were written: their fields are in range, and their text is not too long. And
-- which texts are read as given lines.
use Rattle.std.specs.Prelude.{◌≡◌, ◌⊎◌, ℕ, ℤ, pos, negsuc, ◌<◌, ◌≤◌, ◌≤ℤ◌, ⊤, List, [], ◌∷◌, ◌++◌, length, None}
use Rattle.zk_model.specs.Limits.{max_long}
use Rattle.zk_service.specs.declared.cause.Cause.{Cause}
use Rattle.zk_service.specs.declared.cause.Cause.TheVariants as cause
use Rattle.zk_service.specs.declared.cause.Ended.{Ended}
use Rattle.zk_service.specs.declared.cause.Ended.TheVariants as ended
use Rattle.zk_service.specs.declared.update.UpdateKind.{UpdateKind}
use Rattle.zk_service.specs.declared.update.UpdateKind.TheVariants as kind
use Rattle.zk_transcript.specs.declared.transcript.TranscriptLine.{TranscriptLine}
use Rattle.zk_transcript.specs.declared.transcript.TranscriptLine.TheVariants as line
use Rattle.zt_text.specs.declared.script.Unread.{Unread}
use Rattle.zt_text.specs.declared.script.Why.{Why}
use Rattle.zt_text.specs.Faults.{done_text, fault_text, unread_text, why_text}
use Rattle.zt_text.specs.Scripts.{max_line, max_number, max_script}
use Rattle.zt_text.specs.Transcripts.{AreBytes, line_words, spaced, transcript_text}
use Rattle.zt_lines.specs.Words.{max_place}
use Rattle.zt_lines.specs.Transcripts.{transcript}

-- ---- one field

-- numbers of connections and proxies
abbrev pub FitsNumber : ℕ → Type 0
FitsNumber n = n ≤ max_number

-- places in a stream, times of the clock and indices of frames
abbrev pub FitsPlace : ℕ → Type 0
FitsPlace n = n ≤ max_place

-- zxids, revisions and counts of updates: from 0 to 2^63 - 1
abbrev pub FitsLong : ℤ → Type 0
FitsLong z = (pos 0 ≤ℤ z) × (z ≤ℤ max_long)

-- lengths as a client sends them: from -2^31 to 2^31 - 1
abbrev pub FitsFrameLength : ℤ → Type 0
FitsFrameLength z = (negsuc 2147483647 ≤ℤ z) × (z ≤ℤ pos 2147483647)

-- sessions' numbers: from 1 to 2^63 - 1
abbrev pub FitsSession : ℤ → Type 0
FitsSession id = (pos 1 ≤ℤ id) × (id ≤ℤ max_long)

-- sessions' passwords: 16 bytes
abbrev pub FitsPassword : List ℕ → Type 0
FitsPassword bytes = (length bytes ≡ 16) × AreBytes bytes

-- ---- all fields of a line

abbrev pub FitsKind : UpdateKind → Type 0
FitsKind (kind.Begin now) = FitsPlace now
FitsKind (kind.Session id c) = FitsSession id × FitsNumber c
FitsKind (kind.Attach id c) = FitsSession id × FitsNumber c
FitsKind (kind.Asked c i now) = FitsNumber c × FitsPlace i × FitsPlace now
FitsKind (kind.Closed id c i) = FitsSession id × FitsNumber c × FitsPlace i
FitsKind (kind.Reaped id) = FitsSession id

abbrev pub FitsCause : Cause → Type 0
FitsCause (cause.ClientEnd place) = FitsPlace place
FitsCause (cause.BadLength place size) = FitsPlace place × FitsFrameLength size
FitsCause (cause.NoHeader place) = FitsPlace place
FitsCause (cause.ZxidAhead client head) = FitsLong client × FitsLong head
FitsCause (cause.Taken rev) = FitsLong rev
FitsCause (cause.Expired rev) = FitsLong rev
FitsCause (cause.Moved mine found) = FitsLong mine × FitsLong found
FitsCause (cause.Lagged cursor floor) = FitsLong cursor × FitsLong floor
FitsCause (cause.Damaged key value) = AreBytes key × AreBytes value
FitsCause _ = ⊤

abbrev pub FitsEnd : Ended → Type 0
FitsEnd (ended.Cause x) = FitsCause x
FitsEnd (ended.Reaped z) = FitsLong z
FitsEnd (ended.Kept rev) = FitsLong rev
FitsEnd (ended.Gone rev) = FitsLong rev

abbrev pub FitsLine : TranscriptLine → Type 0
FitsLine (line.Update u) = FitsLong u.zxid × FitsKind u.kind
FitsLine (line.Open c p id pw layout) = FitsNumber c × FitsNumber p × FitsSession id × FitsPassword pw
FitsLine (line.Frame c i z bytes) = FitsNumber c × FitsPlace i × FitsLong z × AreBytes bytes
FitsLine (line.Send c bytes) = FitsNumber c × AreBytes bytes
FitsLine (line.Lapse rev id) = FitsLong rev × FitsSession id
FitsLine (line.Close c end) = FitsNumber c × FitsEnd end

-- a line whose fields fit, and whose text without its line feed is not longer than a line may be
pub record IsReadable (l : TranscriptLine) : Type 0 where
  pub fits : FitsLine l
  pub short : length (spaced (line_words l)) ≤ max_line

-- ---- a whole text

-- bytes that say these lines, unless they are more than are read
abbrev pub IsReadBack : List ℕ → List TranscriptLine → Type 0
IsReadBack bytes lines = length bytes ≤ max_script → transcript bytes ≡ (lines, None)

-- why a line of a script stopped the run: it was not possible, or can't be read
abbrev pub IsReason : List ℕ → Type 0
IsReason reason = ((w : Why) × (reason ≡ why_text w)) ⊎ ((u : Unread) × (reason ≡ unread_text u))

-- `done` or the fault of a line of the script, with its line feed; lines are counted from 1
abbrev pub IsLastLine : List ℕ → Type 0
IsLastLine bytes = (bytes ≡ done_text) ⊎ ((n : ℕ) × (reason : List ℕ) × (0 < n) × (n ≤ max_place) × IsReason reason × (bytes ≡ fault_text n reason))

-- the text of these lines, with such a last line after them or with none
abbrev pub IsTextOf : List TranscriptLine → List ℕ → Type 0
IsTextOf lines bytes = (end : List ℕ) × ((end ≡ []) ⊎ IsLastLine end) × (bytes ≡ transcript_text lines ++ end)

-- that text, or that text without its last line feed (10)
abbrev pub IsReadFrom : List TranscriptLine → List ℕ → Type 0
IsReadFrom lines bytes = IsTextOf lines bytes ⊎ IsTextOf lines (bytes ++ 10 ∷ [])
