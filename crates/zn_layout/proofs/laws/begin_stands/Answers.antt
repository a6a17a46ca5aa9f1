use Rattle.zn_layout.proofs.FirstUpdate.{begin_stands}
use Rattle.zn_layout.proofs.laws.begin_stands.Goals as goal

pub returns : goal.returns
returns c = begin_stands
