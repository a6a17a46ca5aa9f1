-- The copies so far, with those to come, are all.
use Rattle.std.proofs.Common.{◌≡◌, ◌++◌, drop}
use Rattle.zp_run.proofs.copy.copy_kvs.Given as goal

abbrev pub invariant-loop-kv : goal.invariant-loop-kv
invariant-loop-kv l = l.copies ++ drop l.kv-index l.kvs ≡ l.kvs
