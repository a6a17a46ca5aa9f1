use Rattle.std.proofs.Common.{arith}
use Rattle.zn_layout.proofs.Paths.{path_short}
use Rattle.zn_layout.proofs.write.write_kind.Goals as goal

pub string-requires : goal.string-requires
string-requires c = omega (arith, path_short c.args.path.now c.requires)
