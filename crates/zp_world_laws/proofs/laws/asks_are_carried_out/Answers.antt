use Rattle.zp_world_laws.proofs.Happenings.{exec-keeps, stray-keeps}
use Rattle.zp_world_laws.proofs.laws.asks_are_carried_out.Goals as goal

pub returns-clause-exec : goal.returns-clause-exec
returns-clause-exec c = exec-keeps

pub returns-clause-stray : goal.returns-clause-stray
returns-clause-stray c = stray-keeps
