use Rattle.zk_legal.proofs.WithoutFault.{zxids-range}
use Rattle.zk_legal.proofs.laws.lines_without_fault_have_zxids.Goals as goal

pub returns : goal.returns
returns c = zxids-range
