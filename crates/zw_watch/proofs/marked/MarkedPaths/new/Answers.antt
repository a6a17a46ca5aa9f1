use Rattle.std.proofs.Common.{subst, sym}
use Rattle.zk_model.specs.Watches.{PathSet}
use Rattle.zw_watch.specs.Bits.{IsCounted}
use Rattle.zw_watch.proofs.Counting.{none_counted}
use Rattle.zw_watch.proofs.marked.MarkedPaths.new.Goals as goal

pub invariant_of-result : goal.invariant_of-result
invariant_of-result c = subst (λ (s : PathSet). IsCounted s c.new-2.result) (sym c.new.ensures) (none_counted _ c.new-2.ensures)
