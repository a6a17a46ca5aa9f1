use Rattle.zp_world_laws.proofs.Timing.{every-run-served}
use Rattle.zp_world_laws.proofs.laws.every_run_is_one_history.Goals as goal

pub returns : goal.returns
returns c = every-run-served
