use Rattle.std.proofs.Common.{◌≡◌, drop}
use Rattle.zk_service.specs.States.{removed_all}
use Rattle.zk_history.proofs.ended.removed_all.Given as goal

abbrev pub invariant-loop-path : goal.invariant-loop-path
invariant-loop-path l = removed_all l.rest (drop l.path-index l.paths) l.zxid ≡ removed_all l.fn.tree l.paths l.zxid
