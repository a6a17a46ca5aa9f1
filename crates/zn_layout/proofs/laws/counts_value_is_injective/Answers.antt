use Rattle.zn_layout.proofs.Nodes.{counts_value-injective}
use Rattle.zn_layout.proofs.laws.counts_value_is_injective.Goals as goal

pub returns : goal.returns
returns c = counts_value-injective
