-- The head isn't among those that were passed.
use Rattle.std.proofs.Common.{◌≡◌, drop}
use Rattle.zn_layout.specs.Keys.{HeadKey, key_bytes}
use Rattle.zn_view.specs.Asks.{kept_under}
use Rattle.zp_core.proofs.keeping.head_among.Given as goal

abbrev pub invariant-loop-kv : goal.invariant-loop-kv
invariant-loop-kv l = kept_under (key_bytes HeadKey) l.kvs ≡ kept_under (key_bytes HeadKey) (drop l.kv-index l.kvs)
