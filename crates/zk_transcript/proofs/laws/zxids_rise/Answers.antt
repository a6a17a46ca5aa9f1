use Rattle.zk_transcript.proofs.Zxids.{zxids-rise}
use Rattle.zk_transcript.proofs.laws.zxids_rise.Goals as goal

pub returns : goal.returns
returns c = zxids-rise
