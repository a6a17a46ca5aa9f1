-- What is written of a run's lines is read back as these lines, and judged lawful.
use Rattle.std.specs.List.{AllByRecursion}
use Rattle.std.specs.Prelude.{All, List, None, [], length, pos, ℕ, ℤ, ◌++◌, ◌≡◌, ◌≤ℤ◌, ◌≤◌, ◌⊎◌}
use Rattle.zk_judge.specs.Verdicts.{IsVerdict}
use Rattle.zk_judge.specs.declared.verdict.Verdict.TheVariants.{Lawful}
use Rattle.zt_lines.specs.Readable.{FitsFrameLength, FitsLine, FitsNumber, FitsPassword, FitsPlace, IsLastLine}
use Rattle.zt_lines.specs.Transcripts.{transcript}
use Rattle.zk_model.specs.Limits.{max_long}
use Rattle.zk_transcript.specs.Legal.{Tick}
use Rattle.zk_service.specs.declared.cause.Cause.TheVariants as cause
use Rattle.zk_service.specs.declared.cause.Cause.{Cause}
use Rattle.zk_service.specs.declared.cause.Ended.TheVariants as ended
use Rattle.zk_service.specs.declared.cause.Ended.{Ended}
use Rattle.zk_transcript.specs.declared.transcript.TranscriptLine.TheVariants as shown
use Rattle.zk_transcript.specs.declared.transcript.TranscriptLine.{TranscriptLine}
use Rattle.zk_service.specs.declared.update.UpdateKind.TheVariants as kind
use Rattle.zk_service.specs.declared.update.UpdateKind.{UpdateKind}
use Rattle.zp_script.specs.Runs.{Runs}
use Rattle.zp_script.specs.Worlds.{World}
use Rattle.zp_verdict_laws.specs.Lawful.{AreCounted}
use Rattle.zp_world_laws.specs.Accounting.{OffersSession}
use Rattle.zt_text.specs.Scripts.{max_line, max_script}
use Rattle.zt_text.specs.Transcripts.{AreBytes, line_words, spaced, transcript_text}
use Rattle.zt_text.specs.declared.script.Happening.TheVariants as line
use Rattle.zt_text.specs.declared.script.Happening.{Happening}

-- ---- what is asked of a script

-- A connection offers a session's number and a password in their ranges, and a lapse names a session's number. So does each line
-- that is read from a text.
abbrev pub NamesSession : Happening → Type 0
NamesSession (line.Open c p id passwd layout) = OffersSession (line.Open c p id passwd layout)
NamesSession (line.Lapse id) = pos 1 ≤ℤ id
NamesSession _ = Unit {0}

-- ---- what the types of a line's fields say: no number passes its type's end, and bytes are bytes

-- a signed number of 64 bits
abbrev pub IsInLong : ℤ → Type 0
IsInLong z = z ≤ℤ max_long

abbrev pub IsTypedKind : UpdateKind → Type 0
IsTypedKind (kind.Begin now) = FitsPlace now
IsTypedKind (kind.Session id c) = IsInLong id × FitsNumber c
IsTypedKind (kind.Attach id c) = IsInLong id × FitsNumber c
IsTypedKind (kind.Asked c i now) = FitsNumber c × FitsPlace i × FitsPlace now
IsTypedKind (kind.Closed id c i) = IsInLong id × FitsNumber c × FitsPlace i
IsTypedKind (kind.Reaped id) = IsInLong id

abbrev pub IsTypedCause : Cause → Type 0
IsTypedCause (cause.ClientEnd place) = FitsPlace place
IsTypedCause (cause.BadLength place size) = FitsPlace place × FitsFrameLength size
IsTypedCause (cause.NoHeader place) = FitsPlace place
IsTypedCause (cause.ZxidAhead client head) = IsInLong client × IsInLong head
IsTypedCause (cause.Taken rev) = IsInLong rev
IsTypedCause (cause.Expired rev) = IsInLong rev
IsTypedCause (cause.Moved mine found) = IsInLong mine × IsInLong found
IsTypedCause (cause.Lagged cursor floor) = IsInLong cursor × IsInLong floor
IsTypedCause (cause.Damaged key value) = AreBytes key × AreBytes value
IsTypedCause _ = Unit {0}

abbrev pub IsTypedEnd : Ended → Type 0
IsTypedEnd (ended.Cause x) = IsTypedCause x
IsTypedEnd (ended.Reaped z) = IsInLong z
IsTypedEnd (ended.Kept rev) = IsInLong rev
IsTypedEnd (ended.Gone rev) = IsInLong rev

abbrev pub IsTyped : TranscriptLine → Type 0
IsTyped (shown.Update u) = IsInLong u.zxid × IsTypedKind u.kind
IsTyped (shown.Open c p id passwd layout) = FitsNumber c × FitsNumber p × IsInLong id × FitsPassword passwd
IsTyped (shown.Frame c i z bytes) = FitsNumber c × FitsPlace i × IsInLong z × AreBytes bytes
IsTyped (shown.Send c bytes) = FitsNumber c × AreBytes bytes
IsTyped (shown.Lapse rev id) = IsInLong rev × IsInLong id
IsTyped (shown.Close c end) = FitsNumber c × IsTypedEnd end

abbrev pub AreTyped : List TranscriptLine → Type 0
AreTyped lines = All IsTyped lines

-- ---- the lines of a run

-- each field of each line of a run is in the range in which it is read
abbrev pub LinesOfRunsFit : Type 0
LinesOfRunsFit = (hs : List Happening) (ticks : List Tick) (w : World) → All NamesSession hs → AreCounted w.lines → AreTyped w.lines → Runs hs ticks w → AllByRecursion FitsLine w.lines

-- ---- their text

-- no line has more bytes than are read of one, its line feed left out
abbrev pub AreShort : List TranscriptLine → Type 0
AreShort lines = AllByRecursion (λ l. length (spaced (line_words l)) ≤ max_line) lines

-- bytes that are read as these lines, and these are judged lawful
pub record IsJudgedLawful (bytes : List ℕ) (lines : List TranscriptLine) : Type 0 where
  pub read : transcript bytes ≡ (lines, None)
  pub lawful : IsVerdict lines Lawful

-- Within the limits of a transcript and of its lines, so is the text of each run's lines, with nothing after them, `done`, or the
-- fault of a line of the script.
abbrev pub WrittenReplaysAreLawful : Type 0
WrittenReplaysAreLawful = (hs : List Happening) (ticks : List Tick) (w : World) (end : List ℕ) → All NamesSession hs → AreCounted w.lines → AreTyped w.lines → Runs hs ticks w
    → (end ≡ []) ⊎ IsLastLine end → AreShort w.lines → length (transcript_text w.lines ++ end) ≤ max_script → IsJudgedLawful (transcript_text w.lines ++ end) w.lines
