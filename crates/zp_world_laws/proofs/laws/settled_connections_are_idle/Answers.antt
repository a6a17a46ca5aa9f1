use Rattle.zp_world_laws.proofs.Settled.{settled-idle}
use Rattle.zp_world_laws.proofs.laws.settled_connections_are_idle.Goals as goal

pub returns : goal.returns
returns c = settled-idle
