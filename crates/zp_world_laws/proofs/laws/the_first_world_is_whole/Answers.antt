use Rattle.zp_world_laws.proofs.First.{first-whole}
use Rattle.zp_world_laws.proofs.laws.the_first_world_is_whole.Goals as goal

pub returns : goal.returns
returns c = first-whole
