use Rattle.zn_layout.proofs.Lapses.{lapse-stands}
use Rattle.zn_layout.proofs.laws.lapse_stands.Goals as goal

pub returns : goal.returns
returns c = lapse-stands
