use Rattle.zk_transcript.proofs.SoundHistories.{legal-sound}
use Rattle.zk_transcript.proofs.laws.legal_histories_are_sound.Goals as goal

pub returns : goal.returns
returns c = legal-sound
