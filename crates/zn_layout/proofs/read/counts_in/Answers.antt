use Rattle.zn_layout.proofs.Nodes.{counts-not_one, counts-length, counts-read}
use Rattle.zn_layout.proofs.read.counts_in.Goals as goal

pub returns-in_default : goal.returns-in_default
returns-in_default c = counts-not_one c.args.value.now c.in_default.ensures

pub returns-then-numbers-ne-COUNTS_NUMBERS : goal.returns-then-numbers-ne-COUNTS_NUMBERS
returns-then-numbers-ne-COUNTS_NUMBERS c = counts-length c.args.value.now c.in-Some.numbers.now c.in-Some.ensures c.if-numbers-ne-COUNTS_NUMBERS.true

pub returns : goal.returns
returns c = counts-read c.args.value.now c.in-Some.numbers.now c.counts_of.result c.bounded_counts.result c.in-Some.ensures c.counts_of.ensures.value c.counts_of.ensures.fits c.bounded_counts.ensures
