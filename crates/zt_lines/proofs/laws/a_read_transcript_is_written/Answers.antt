use Rattle.zt_lines.proofs.ReadTranscripts.{transcript-written}
use Rattle.zt_lines.proofs.laws.a_read_transcript_is_written.Goals as goal

pub returns : goal.returns
returns c = transcript-written
