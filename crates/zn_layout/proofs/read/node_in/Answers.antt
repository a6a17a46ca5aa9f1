use Rattle.zn_layout.proofs.Nodes.{node-not_one, node-short, node-read}
use Rattle.zn_layout.proofs.read.node_in.Goals as goal

pub returns-in_default : goal.returns-in_default
returns-in_default c = node-not_one c.args.value.now c.in_default.ensures

pub returns-then-numbers-lt-NODE_NUMBERS : goal.returns-then-numbers-lt-NODE_NUMBERS
returns-then-numbers-lt-NODE_NUMBERS c = node-short c.args.value.now c.in-Some.numbers.now c.in-Some.ensures c.if-numbers-lt-NODE_NUMBERS.true

pub returns : goal.returns
returns c = node-read c.args.value.now c.in-Some.numbers.now c.in_ok-node_of.field-0 c.bounded_node.result c.in-Some.ensures c.in_ok-node_of.ensures.value c.in_ok-node_of.ensures.fits c.bounded_node.ensures
