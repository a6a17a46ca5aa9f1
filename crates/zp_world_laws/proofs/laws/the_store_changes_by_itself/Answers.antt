use Rattle.zp_world_laws.proofs.Happenings.{foreign-keeps, lapse-keeps, tick-keeps}
use Rattle.zp_world_laws.proofs.laws.the_store_changes_by_itself.Goals as goal

pub returns-clause-tick : goal.returns-clause-tick
returns-clause-tick c = tick-keeps

pub returns-clause-foreign : goal.returns-clause-foreign
returns-clause-foreign c = foreign-keeps

pub returns-clause-lapse : goal.returns-clause-lapse
returns-clause-lapse c = lapse-keeps
