use Rattle.zk_transcript.proofs.Begins.{begin-before}
use Rattle.zk_transcript.proofs.laws.begin_comes_before_lapses.Goals as goal

pub returns : goal.returns
returns c = begin-before
