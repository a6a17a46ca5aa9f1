-- The paths so far, with those to come, are all.
use Rattle.std.proofs.Common.{◌≡◌, ◌++◌, drop}
use Rattle.zn_view.specs.Asks.{paths_in}
use Rattle.zn_view.proofs.children.paths_among.Given as goal

abbrev pub invariant-loop-kv : goal.invariant-loop-kv
invariant-loop-kv l = l.paths ++ paths_in l.path (drop l.kv-index l.kvs) ≡ paths_in l.path l.kvs
