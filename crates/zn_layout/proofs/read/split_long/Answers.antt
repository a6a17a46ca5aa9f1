use Rattle.zn_layout.proofs.Numbers.{long_split}
use Rattle.zn_layout.proofs.read.split_long.Goals as goal

pub returns-clause-parts : goal.returns-clause-parts
returns-clause-parts c = long_split c.args.bytes.now c.read_i64.result c.requires (λ k. (c.type_inv.bytes k).fits) c.read_i64.type_inv c.read_i64.ensures
