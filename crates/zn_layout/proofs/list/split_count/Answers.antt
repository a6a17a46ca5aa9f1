use Rattle.zn_layout.proofs.Lists.{uncounted-short, uncounted-number}
use Rattle.zn_layout.proofs.list.split_count.Goals as goal

pub returns-then-bytes-lt4 : goal.returns-then-bytes-lt4
returns-then-bytes-lt4 c = uncounted-short c.args.bytes.now c.if-bytes-lt4.true

pub returns-in-Err : goal.returns-in-Err
returns-in-Err c = let number = c.split_int-number.ensures in uncounted-number c.args.bytes.now c.split_int-number.result.1.now c.split_int-number.result.0 number.fits number.parts c.in-Err.ensures
