-- The values of a Stat make that Stat, and are of its kinds.
use Rattle.std.proofs.Common.{◌≡◌, ℕ, map, refl}
use Rattle.zk_model.specs.declared.node.Stat.{Stat}
use Rattle.zk_jute.specs.JuteValues.{Value, kind_of}
use Rattle.zk_jute.specs.Records.{stat_fields, stat_values}
use Rattle.zk_jute.specs.FromValues.{value_in, stat_with}
use Rattle.zk_jute.proofs.Conforming.{normals}

pub stat_back : (s : Stat) → stat_with (value_in (stat_values s)) ≡ s
unfolding stat_with stat_values
stat_back s = refl

pub stat_kinds : (s : Stat) → map kind_of (stat_values s) ≡ stat_fields
unfolding stat_fields stat_values
stat_kinds s = refl

pub stat_normals : (v : ℕ → Value) → stat_values (stat_with v) ≡ normals stat_fields v
unfolding stat_with stat_values stat_fields
stat_normals v = refl
