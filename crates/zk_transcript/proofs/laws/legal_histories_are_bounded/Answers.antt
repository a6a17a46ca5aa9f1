use Rattle.zk_transcript.proofs.SoundHistories.{legal-bounded}
use Rattle.zk_transcript.proofs.laws.legal_histories_are_bounded.Goals as goal

pub returns : goal.returns
returns c = legal-bounded
