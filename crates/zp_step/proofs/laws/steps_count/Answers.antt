use Rattle.zp_step.proofs.Counting.{steps_count}
use Rattle.zp_step.proofs.laws.steps_count.Goals as goal

pub returns : goal.returns
returns c = steps_count
