use Rattle.zk_legal.proofs.WithoutFault.{frames-fresh}
use Rattle.zk_legal.proofs.laws.frames_without_fault_are_fresh.Goals as goal

pub returns : goal.returns
returns c = frames-fresh
