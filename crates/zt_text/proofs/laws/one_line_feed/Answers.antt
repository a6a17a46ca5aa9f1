use Rattle.zt_text.proofs.TranscriptLaws.{line_text-last}
use Rattle.zt_text.proofs.laws.one_line_feed.Goals as goal

pub returns : goal.returns
returns c = line_text-last
