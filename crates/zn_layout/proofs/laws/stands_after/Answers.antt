use Rattle.zn_layout.proofs.Stands.{stands_after}
use Rattle.zn_layout.proofs.laws.stands_after.Goals as goal

pub returns : goal.returns
returns c = stands_after
