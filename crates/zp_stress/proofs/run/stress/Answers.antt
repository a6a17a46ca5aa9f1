use Rattle.zp_stress.proofs.Running.{stressed}
use Rattle.zp_stress.proofs.run.stress.Goals as goal

pub returns : goal.returns
returns c = stressed _ _ _ c.in_ok-world.world _ c.requires.few c.counted.ensures.few c.in_ok-world.ensures c.counted.ensures.counted
