use Rattle.zp_laws.proofs.Planning.{plans_are_made_now}
use Rattle.zp_laws.proofs.laws.plans_are_made_now.Goals as goal

pub returns : goal.returns
returns c = plans_are_made_now
