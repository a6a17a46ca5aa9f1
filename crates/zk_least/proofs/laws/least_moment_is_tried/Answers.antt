use Rattle.zk_least.proofs.MomentsToTry.{least-moment-law}
use Rattle.zk_least.proofs.laws.least_moment_is_tried.Goals as goal

pub returns : goal.returns
returns c = least-moment-law
