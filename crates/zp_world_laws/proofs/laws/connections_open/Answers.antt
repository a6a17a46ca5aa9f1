use Rattle.zp_world_laws.proofs.Happenings.{open-keeps, reap-keeps}
use Rattle.zp_world_laws.proofs.laws.connections_open.Goals as goal

pub returns-clause-open : goal.returns-clause-open
returns-clause-open c = open-keeps

pub returns-clause-reap : goal.returns-clause-reap
returns-clause-reap c = reap-keeps
