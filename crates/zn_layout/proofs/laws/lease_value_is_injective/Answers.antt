use Rattle.zn_layout.proofs.Leases.{lease_value-injective}
use Rattle.zn_layout.proofs.laws.lease_value_is_injective.Goals as goal

pub returns : goal.returns
returns c = lease_value-injective
