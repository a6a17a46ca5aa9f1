use Rattle.zp_world_laws.proofs.Happenings.{cut-keeps, end-keeps, lag-keeps, refuse-keeps, restart-keeps}
use Rattle.zp_world_laws.proofs.laws.connections_end.Goals as goal

pub returns-clause-cut : goal.returns-clause-cut
returns-clause-cut c = cut-keeps

pub returns-clause-refuse : goal.returns-clause-refuse
returns-clause-refuse c = refuse-keeps

pub returns-clause-lag : goal.returns-clause-lag
returns-clause-lag c = lag-keeps

pub returns-clause-end : goal.returns-clause-end
returns-clause-end c = end-keeps

pub returns-clause-restart : goal.returns-clause-restart
returns-clause-restart c = restart-keeps
