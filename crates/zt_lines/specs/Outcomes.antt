-- What reading a transcript answers.
use Rattle.std.specs.Prelude.{◌≡◌, ℕ, Option, Some, None, ⊤}
use Rattle.zk_transcript.specs.declared.transcript.TranscriptLine.{TranscriptLine}
use Rattle.zt_lines.specs.declared.transcript.TranscriptFault.{TranscriptFault}
use Rattle.zt_lines.specs.declared.transcript.TranscriptFault.TheVariants.{Unreadable, Memory}
use Rattle.zt_lines.specs.Transcripts.{Transcript}

-- the fault is that of the first line that can't be read
abbrev pub IsFaultOf : Transcript → TranscriptFault → Type 0
IsFaultOf t (Unreadable n) = t.1 ≡ Some n
IsFaultOf t Memory = ⊤

-- a line that can't be read is the fault
abbrev pub IsUnread : ℕ → Option TranscriptLine → TranscriptFault → Type 0
IsUnread number read (Unreadable n) = (n ≡ number) × (read ≡ None)
IsUnread number read Memory = ⊤
