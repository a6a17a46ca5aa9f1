use Rattle.zk_transcript.proofs.Begins.{begin-after}
use Rattle.zk_transcript.proofs.laws.begin_comes_after_an_open_line.Goals as goal

pub returns : goal.returns
returns c = begin-after
