use Rattle.zp_settle_laws.proofs.Ending.{every-settle-ends}
use Rattle.zp_settle_laws.proofs.laws.every_settle_ends.Goals as goal

pub returns : goal.returns
returns c = every-settle-ends
