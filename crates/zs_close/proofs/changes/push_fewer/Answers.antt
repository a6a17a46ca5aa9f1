-- Valid paths are short.
use Rattle.std.proofs.Common.{◌≤◌, length, sym, subst}
use Rattle.zk_model.specs.Limits.{max_path}
use Rattle.zn_layout.proofs.Paths.{path_short}
use Rattle.zx_base.specs.Maps.{Bytes}
use Rattle.zs_close.proofs.changes.push_fewer.Goals as goal

pub put_counts-requires-clause-short : goal.put_counts-requires-clause-short
put_counts-requires-clause-short c = subst (λ (p : Bytes). length p ≤ max_path) (sym c.bytes-2.ensures) (path_short c.args.parent.now c.requires.valid)
