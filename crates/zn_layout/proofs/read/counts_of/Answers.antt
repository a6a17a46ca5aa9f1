use Rattle.std.proofs.Common.{arith}
use Rattle.std.proofs.lemmas.Int.{to_z-of_z}
use Rattle.zn_layout.proofs.Nodes.{counts_joined}
use Rattle.zn_layout.proofs.read.counts_of.Goals as goal

pub returns-clause-value : goal.returns-clause-value
returns-clause-value c =
    let front = c.split_int-creates.ensures in
    let back = c.split_int-children.ensures in
    rw (to_z-of_z _ _ front.fits, to_z-of_z _ _ back.fits)
    (counts_joined _ c.args.numbers.now c.split_int-creates.result.1.now c.split_int-children.result.1.now front.parts back.parts (omega arith))
