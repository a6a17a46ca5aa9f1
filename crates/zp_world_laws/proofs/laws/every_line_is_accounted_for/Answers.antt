use Rattle.zp_world_laws.proofs.Running.{first-accounted, happens-accounted}
use Rattle.zp_world_laws.proofs.laws.every_line_is_accounted_for.Goals as goal

pub returns-clause-first : goal.returns-clause-first
returns-clause-first c = first-accounted

pub returns-clause-happens : goal.returns-clause-happens
returns-clause-happens c = happens-accounted
