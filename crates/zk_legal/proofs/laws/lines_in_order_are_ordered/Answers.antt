use Rattle.zk_legal.proofs.NoFault.{order_fault-none}
use Rattle.zk_legal.proofs.laws.lines_in_order_are_ordered.Goals as goal

pub returns : goal.returns
returns c = order_fault-none
