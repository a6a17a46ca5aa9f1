use Rattle.zp_world_laws.proofs.Happenings.{answer-keeps, entry-keeps}
use Rattle.zp_world_laws.proofs.laws.attached_connections_go_on.Goals as goal

pub returns-clause-answer : goal.returns-clause-answer
returns-clause-answer c = answer-keeps

pub returns-clause-entry : goal.returns-clause-entry
returns-clause-entry c = entry-keeps
