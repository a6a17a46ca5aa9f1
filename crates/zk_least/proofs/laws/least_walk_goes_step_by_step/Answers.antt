use Rattle.zk_least.proofs.ChoiceCounts.{least-step-law}
use Rattle.zk_least.proofs.laws.least_walk_goes_step_by_step.Goals as goal

pub returns : goal.returns
returns c = least-step-law
