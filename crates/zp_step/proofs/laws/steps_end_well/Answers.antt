use Rattle.zp_step.proofs.Ending.{steps_end_well}
use Rattle.zp_step.proofs.laws.steps_end_well.Goals as goal

pub returns : goal.returns
returns c = steps_end_well
