use Rattle.zk_model.proofs.ValidPaths.{root-valid}
use Rattle.zk_model.proofs.path.Path.root.Goals as goal

pub invariant_of-result : goal.invariant_of-result
invariant_of-result c = rw c.in_ok-from_slice.ensures.items root-valid
