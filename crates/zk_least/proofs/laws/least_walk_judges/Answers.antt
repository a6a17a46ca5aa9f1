use Rattle.zk_least.proofs.LeastWalkLaw.{conversation-law}
use Rattle.zk_least.proofs.laws.least_walk_judges.Goals as goal

pub returns : goal.returns
returns c = conversation-law
