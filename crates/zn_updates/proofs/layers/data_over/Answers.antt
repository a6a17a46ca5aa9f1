use Rattle.std.proofs.Common.{◌≤◌, length, subst, sym}
use Rattle.zk_model.specs.Limits.{max_path}
use Rattle.zx_base.specs.Maps.{Bytes}
use Rattle.zn_layout.proofs.Paths.{path_short}
use Rattle.zn_updates.proofs.layers.data_over.Goals as goal

pub data_key-requires : goal.data_key-requires
data_key-requires c = subst (λ (b : Bytes). length b ≤ max_path) (sym c.bytes.ensures) (path_short c.args.path.now c.requires.valid)
