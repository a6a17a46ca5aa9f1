use Rattle.zp_world_laws.proofs.Giving.{whole-gives}
use Rattle.zp_world_laws.proofs.laws.a_whole_world_is_one_history.Goals as goal

pub returns : goal.returns
returns c = whole-gives
