use Rattle.zk_transcript.proofs.UpdateCounts.{legal-counts}
use Rattle.zk_transcript.proofs.laws.updates_are_counted.Goals as goal

pub returns : goal.returns
returns c = legal-counts
