use Rattle.zp_laws.proofs.Welcoming.{connects_are}
use Rattle.zp_laws.proofs.laws.connects_are_answered.Goals as goal

pub returns : goal.returns
returns c = connects_are
