use Rattle.zk_least.proofs.LeastWalkLaw.{least-walk-law}
use Rattle.zk_least.proofs.laws.least_walk_decides.Goals as goal

pub returns : goal.returns
returns c = least-walk-law
