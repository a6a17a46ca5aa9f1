use Rattle.zp_lives.proofs.Keeping.{accounted-served, lives-accounted}
use Rattle.zp_lives.proofs.laws.connections_live_in_worlds.Goals as goal

pub returns-clause-accounted : goal.returns-clause-accounted
returns-clause-accounted c = lives-accounted

pub returns-clause-served : goal.returns-clause-served
returns-clause-served c = accounted-served
