use Rattle.std.proofs.Common.{drop}
use Rattle.zk_model.specs.Watches.{PathSet}
use Rattle.zw_watch.specs.Noted.{IsWithout}
use Rattle.zw_watch.proofs.noted.remove_all.Given as goal

abbrev pub invariant-loop-path : goal.invariant-loop-path
invariant-loop-path l = (before : PathSet) → IsWithout l.fn.paths l.noted before → IsWithout l.paths (drop l.path-index l.noted) before
