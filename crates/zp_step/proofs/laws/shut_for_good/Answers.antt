use Rattle.zp_step.proofs.Shutting.{shut-for-good}
use Rattle.zp_step.proofs.laws.shut_for_good.Goals as goal

pub returns : goal.returns
returns c = shut-for-good
