use Rattle.zn_layout.proofs.ListRecords.{session_value-injective}
use Rattle.zn_layout.proofs.laws.session_value_is_injective.Goals as goal

pub returns : goal.returns
returns c = session_value-injective
