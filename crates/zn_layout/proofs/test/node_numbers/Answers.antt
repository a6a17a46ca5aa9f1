use Rattle.zn_layout.proofs.Nodes.{node-not_one, node-short}
use Rattle.zn_layout.proofs.Values.{numbers-read}
use Rattle.zn_layout.proofs.test.node_numbers.Goals as goal

pub returns-in_default : goal.returns-in_default
returns-in_default c = node-not_one c.args.value.now c.in_default.ensures

pub returns-then-numbers-lt-NODE_NUMBERS : goal.returns-then-numbers-lt-NODE_NUMBERS
returns-then-numbers-lt-NODE_NUMBERS c = node-short c.args.value.now c.in-Some.numbers.now c.in-Some.ensures c.if-numbers-lt-NODE_NUMBERS.true

pub returns : goal.returns
returns c =
    numbers-read c.args.value.now c.in-Some.numbers.now c.numbers_of.result.1.now c.numbers_of.result.0 c.bounded_numbers.result
    c.in-Some.ensures c.numbers_of.ensures.value c.numbers_of.ensures.fits c.bounded_numbers.ensures
