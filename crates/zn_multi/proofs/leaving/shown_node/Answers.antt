-- A valid path is short.
use Rattle.std.proofs.Common.{◌≤◌, length, sym, subst}
use Rattle.zk_model.specs.Limits.{max_path}
use Rattle.zn_layout.proofs.Paths.{path_short}
use Rattle.zx_base.specs.Maps.{Bytes}
use Rattle.zn_multi.proofs.leaving.shown_node.Goals as goal

pub data_key-requires : goal.data_key-requires
data_key-requires c = subst (λ (p : Bytes). length p ≤ max_path) (sym c.bytes.ensures) (path_short c.args.path.now c.requires)
