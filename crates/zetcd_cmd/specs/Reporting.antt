-- What is written of a replay, and the status that goes with it.
use Rattle.std.specs.Prelude.{◌≡◌, ℕ, ◌≤◌, List, [], ◌++◌, length, take, Option}
use Rattle.zk_transcript.specs.declared.transcript.TranscriptLine.{TranscriptLine}
use Rattle.zt_text.specs.Transcripts.{transcript_text}
use Rattle.zt_text.specs.Faults.{done_text, fault_text, unread_text, why_text}
use Rattle.zx_outside.specs.Counts.{OutputCounts}
use Rattle.zx_outside.specs.Writing.{Takes, counts_after_write}
use Rattle.zx_outside.specs.declared.sink.Took.TheVariants as took
use Rattle.zetcd_cmd.specs.declared.report.Unwritten.{Unwritten}
use Rattle.zetcd_cmd.specs.declared.report.Unwritten.TheVariants as unwritten
use Rattle.zetcd_cmd.specs.declared.script.Stop.{Stop}
use Rattle.zetcd_cmd.specs.declared.script.Stop.TheVariants as stop
use Rattle.zetcd_cmd.specs.declared.report.End.{End}
use Rattle.zetcd_cmd.specs.declared.report.End.TheVariants as end
use Rattle.zetcd_cmd.specs.declared.status.Status.{Status}
use Rattle.zetcd_cmd.specs.declared.status.Status.TheVariants as status

-- why no further line was applied, in words; where memory was refused, nothing is said
abbrev pub stop_text : Stop → List ℕ
stop_text (stop.Unread why) = unread_text why
stop_text (stop.Refused why) = why_text why
stop_text stop.Memory = []

-- the last line, by how the script ended before line n
abbrev pub ending_text : End → ℕ → List ℕ
ending_text end.Whole n = done_text
ending_text (end.Stopped stop.Memory) n = []
ending_text (end.Stopped why) n = fault_text n (stop_text why)
ending_text end.ReadFault n = []

abbrev pub status_after : End → ℕ → Status
status_after end.Whole n = status.Done
status_after (end.Stopped (stop.Unread why)) n = status.Script n
status_after (end.Stopped (stop.Refused why)) n = status.Script n
status_after (end.Stopped stop.Memory) n = status.Memory
status_after end.ReadFault n = status.ReadFault

-- so many of these lines were written, from the first on
abbrev pub HasWritten : ℕ → List TranscriptLine → Option (List ℕ) → Option (List ℕ) → Type 0
HasWritten count lines taken taken' = (count ≤ length lines) × Takes (transcript_text (take count lines)) taken taken'

-- bytes went through a buffer: some were written, and the buffer has the rest
abbrev pub ReportPasses : List ℕ → List ℕ → List ℕ → Option (List ℕ) → Option (List ℕ) → Type 0
ReportPasses bytes buffer buffer' taken taken' = (written : List ℕ) × (written ++ buffer' ≡ buffer ++ bytes) × Takes written taken taken'

-- the count of a sink, by why not all was written to it
abbrev pub counts_unwritten : Unwritten → OutputCounts → OutputCounts
counts_unwritten unwritten.Sink counts = counts_after_write took.Failed counts
counts_unwritten unwritten.Memory counts = counts
