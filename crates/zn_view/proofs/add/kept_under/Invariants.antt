-- The key isn't among those that were passed.
use Rattle.std.proofs.Common.{◌≡◌, drop}
use Rattle.zn_view.specs.Asks.{kept_under}
use Rattle.zn_view.proofs.add.kept_under.Given as goal

abbrev pub invariant-loop-kv : goal.invariant-loop-kv
invariant-loop-kv l = kept_under l.key l.kvs ≡ kept_under l.key (drop l.kv-index l.kvs)
