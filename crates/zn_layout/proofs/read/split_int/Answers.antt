use Rattle.zn_layout.proofs.Numbers.{int_split}
use Rattle.zn_layout.proofs.read.split_int.Goals as goal

pub returns-clause-parts : goal.returns-clause-parts
returns-clause-parts c = int_split c.args.bytes.now c.read_i32.result c.requires (λ k. (c.type_inv.bytes k).fits) c.read_i32.type_inv c.read_i32.ensures
