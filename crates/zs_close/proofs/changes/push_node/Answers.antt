-- Valid paths are short.
use Rattle.std.proofs.Common.{◌≤◌, length, sym, subst}
use Rattle.zk_model.specs.Limits.{max_path}
use Rattle.zn_layout.proofs.Paths.{path_short}
use Rattle.zx_base.specs.Maps.{Bytes}
use Rattle.zs_close.proofs.changes.push_node.Goals as goal

pub delete_node-requires : goal.delete_node-requires
delete_node-requires c = subst (λ (p : Bytes). length p ≤ max_path) (sym c.bytes.ensures) (path_short c.args.path.now c.requires)

pub delete_counts-requires : goal.delete_counts-requires
delete_counts-requires c = subst (λ (p : Bytes). length p ≤ max_path) (sym c.bytes-then-has_counts.ensures) (path_short c.args.path.now c.requires)
