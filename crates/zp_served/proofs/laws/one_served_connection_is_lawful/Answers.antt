use Rattle.zp_served.proofs.Alone.{accounted, fed, first}
use Rattle.zp_served.proofs.laws.one_served_connection_is_lawful.Goals as goal

pub returns-clause-fed : goal.returns-clause-fed
returns-clause-fed c = fed

pub returns-clause-accounted : goal.returns-clause-accounted
returns-clause-accounted c = accounted

pub returns-clause-first : goal.returns-clause-first
returns-clause-first c = first
