use Rattle.zn_layout.proofs.ListRecords.{head_value-injective}
use Rattle.zn_layout.proofs.laws.head_value_is_injective.Goals as goal

pub returns : goal.returns
returns c = head_value-injective
