use Rattle.zp_laws.proofs.Steps.{sends_are_walks}
use Rattle.zp_laws.proofs.laws.sends_are_walks.Goals as goal

pub returns : goal.returns
returns c = sends_are_walks
