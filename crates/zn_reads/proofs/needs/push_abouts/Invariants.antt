use Rattle.std.proofs.Common.{◌≡◌, ◌++◌, take}
use Rattle.std.specs.List.{flat_map}
use Rattle.std.specs.Prelude.{map}
use Rattle.zn_layout.specs.Keys.{key_bytes}
use Rattle.zn_view.specs.Views.{about_path, valid}
use Rattle.zn_reads.proofs.needs.push_abouts.Given as goal

abbrev pub invariant-loop-text : goal.invariant-loop-text
invariant-loop-text l = l.keys.items ≡ l.initial.keys.items ++ map key_bytes (flat_map about_path (valid (take l.text-index l.texts)))
