use Rattle.zk_legal.proofs.NoFault.{history_fault-none}
use Rattle.zk_legal.proofs.laws.lines_without_fault_are_legal.Goals as goal

pub returns : goal.returns
returns c = history_fault-none
