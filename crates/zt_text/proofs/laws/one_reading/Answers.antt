use Rattle.zt_text.proofs.TranscriptLaws.{transcript_text-injective}
use Rattle.zt_text.proofs.laws.one_reading.Goals as goal

pub returns : goal.returns
returns c = transcript_text-injective
