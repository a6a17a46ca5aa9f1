use Rattle.std.proofs.Common.{◌≡◌, true, sym, subst}
use Rattle.std.specs.FinMap.{contains_key}
use Rattle.zk_model.specs.Watches.{PathSet}
use Rattle.zw_watch.proofs.Counting.{has_each}
use Rattle.zw_watch.proofs.Hearing.{place-below}
use Rattle.zw_watch.proofs.marked.MarkedPaths.bits.Goals as goal

pub returns : goal.returns
returns c p is = has_each _ _ _ place-below c.self.invariant c.bits.ensures p (subst (λ (s : PathSet). contains_key s p ≡ true) (sym c.self.view_is) is)
