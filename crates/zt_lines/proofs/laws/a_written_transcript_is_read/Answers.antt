use Rattle.zt_lines.proofs.WrittenTranscripts.{transcript-cut, transcript-done, transcript-refused, transcript-unread}
use Rattle.zt_lines.proofs.laws.a_written_transcript_is_read.Goals as goal

pub returns-clause-cut : goal.returns-clause-cut
returns-clause-cut c = transcript-cut

pub returns-clause-done : goal.returns-clause-done
returns-clause-done c = transcript-done

pub returns-clause-refused : goal.returns-clause-refused
returns-clause-refused c = transcript-refused

pub returns-clause-unread : goal.returns-clause-unread
returns-clause-unread c = transcript-unread
