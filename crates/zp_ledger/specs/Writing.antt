-- What a transcript keeps beside its lines.
use Rattle.std.specs.Prelude.{◌≡◌, List}
use Rattle.std.specs.List.{AllByRecursion}
use Rattle.zk_transcript.specs.declared.transcript.TranscriptLine.{TranscriptLine}
use Rattle.zk_service.specs.declared.update.UpdateRec.{UpdateRec}
use Rattle.zk_transcript.specs.History.{updates}
use Rattle.zt_text.specs.Transcripts.{IsWellFormed}

-- the updates are those among the lines, and the text of the lines has one reading
pub record IsWritten (lines : List TranscriptLine) (us : List UpdateRec) : Type 0 where
  pub updates_are : us ≡ updates lines
  pub formed : AllByRecursion IsWellFormed lines
