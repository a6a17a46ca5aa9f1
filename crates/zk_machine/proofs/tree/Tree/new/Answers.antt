use Rattle.zk_machine.proofs.GroupLaws.{families-none, owners-none}
use Rattle.zk_machine.proofs.tree.Tree.new.Goals as goal

pub invariant_of-result : goal.invariant_of-result
invariant_of-result c = (families-none c.new.result c.new-2.result c.new.ensures c.new-2.ensures, owners-none c.new.result c.new-3.result c.new.ensures c.new-3.ensures.empty)
