use Rattle.std.proofs.Common.{◌≡◌, ◌++◌, take}
use Rattle.std.specs.Prelude.{map}
use Rattle.zn_layout.specs.Keys.{DataKey, key_bytes}
use Rattle.zn_view.specs.Views.{valid}
use Rattle.zn_reads.proofs.needs.push_datas.Given as goal

abbrev pub invariant-loop-text : goal.invariant-loop-text
invariant-loop-text l = l.keys.items ≡ l.initial.keys.items ++ map key_bytes (map DataKey (valid (take l.text-index l.texts)))
