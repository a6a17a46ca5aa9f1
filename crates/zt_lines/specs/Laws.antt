-- The laws of a transcript's lines, as they are written and read.
use Rattle.std.specs.Prelude.{◌≡◌, ◌++◌, ◌<◌, ◌≤◌, ℕ, List, length, Some, None}
use Rattle.std.specs.List.{AllByRecursion}
use Rattle.zk_transcript.specs.declared.transcript.TranscriptLine.{TranscriptLine}
use Rattle.zt_text.specs.declared.script.Unread.{Unread}
use Rattle.zt_text.specs.declared.script.Why.{Why}
use Rattle.zt_text.specs.Faults.{done_text, fault_text, unread_text, why_text}
use Rattle.zt_text.specs.Scripts.{max_script}
use Rattle.zt_text.specs.Transcripts.{line_words, spaced, transcript_text}
use Rattle.zt_lines.specs.Lines.{line_read}
use Rattle.zt_lines.specs.Readable.{IsReadable, IsReadBack, IsReadFrom}
use Rattle.zt_lines.specs.Transcripts.{transcript}
use Rattle.zt_lines.specs.Words.{max_place}

-- a line whose fields are in range and whose text is not too long is read as itself, from the text without its line feed
abbrev pub AWrittenLineIsRead : Type 0
AWrittenLineIsRead = (line : TranscriptLine) → IsReadable line → line_read (spaced (line_words line)) ≡ Some line

-- Bytes that are read as a line are the text of that line: its fields are in range, and its text is not too long. So no two texts
-- are read as one line.
abbrev pub AReadLineIsWritten : Type 0
AReadLineIsWritten = (bytes : List ℕ) (line : TranscriptLine) → line_read bytes ≡ Some line
    → (bytes ≡ spaced (line_words line)) × IsReadable line

-- the text of lines in range, of at most 100,000,000 bytes, is read as these lines and no others where nothing follows them
abbrev pub CutTranscriptIsRead : Type 0
CutTranscriptIsRead = (lines : List TranscriptLine) → AllByRecursion IsReadable lines → IsReadBack (transcript_text lines) lines

-- the text of lines in range, of at most 100,000,000 bytes, is read as these lines and no others where `done` follows them
abbrev pub DoneTranscriptIsRead : Type 0
DoneTranscriptIsRead = (lines : List TranscriptLine) → AllByRecursion IsReadable lines
    → IsReadBack (transcript_text lines ++ done_text) lines

-- the text of lines in range, of at most 100,000,000 bytes, is read as these lines and no others where the fault of a script's
-- line that was not possible follows them
abbrev pub RefusedTranscriptIsRead : Type 0
RefusedTranscriptIsRead = (lines : List TranscriptLine) (n : ℕ) (why : Why) → AllByRecursion IsReadable lines → 0 < n → n ≤ max_place
    → IsReadBack (transcript_text lines ++ fault_text n (why_text why)) lines

-- the text of lines in range, of at most 100,000,000 bytes, is read as these lines and no others where the fault of a script's
-- line that could not be read follows them
abbrev pub UnreadTranscriptIsRead : Type 0
UnreadTranscriptIsRead = (lines : List TranscriptLine) (n : ℕ) (why : Unread) → AllByRecursion IsReadable lines → 0 < n → n ≤ max_place
    → IsReadBack (transcript_text lines ++ fault_text n (unread_text why)) lines

-- A text that is read to its end has at most 100,000,000 bytes and is the text of the lines that it is read as, each with its
-- fields in range and not too long. `done`, a fault of the script or nothing follows the lines, and the last line feed may be
-- missing.
abbrev pub AReadTranscriptIsWritten : Type 0
AReadTranscriptIsWritten = (bytes : List ℕ) (lines : List TranscriptLine) → transcript bytes ≡ (lines, None)
    → (length bytes ≤ max_script) × AllByRecursion IsReadable lines × IsReadFrom lines bytes
