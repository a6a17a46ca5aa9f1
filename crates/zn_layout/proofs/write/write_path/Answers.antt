use Rattle.std.proofs.Common.{◌≤◌, length, arith, subst, sym}
use Rattle.zx_base.specs.Maps.{Bytes}
use Rattle.zn_layout.proofs.Paths.{path_short}
use Rattle.zn_layout.proofs.write.write_path.Goals as goal
use Rattle.zk_model.specs.Limits.{max_path}

pub string-requires : goal.string-requires
string-requires c =
    let short : length c.bytes.result.now ≤ max_path = subst (λ (p : Bytes). length p ≤ max_path) (sym c.bytes.ensures) (path_short c.args.path.now c.requires) in
    omega arith
