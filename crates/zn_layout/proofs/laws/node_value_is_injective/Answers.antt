use Rattle.zn_layout.proofs.Nodes.{node_value-injective}
use Rattle.zn_layout.proofs.laws.node_value_is_injective.Goals as goal

pub returns : goal.returns
returns c = node_value-injective
