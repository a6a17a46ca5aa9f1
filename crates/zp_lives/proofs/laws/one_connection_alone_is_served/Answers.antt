use Rattle.zp_lives.proofs.Living.{alone-served, alone-from-the-first}
use Rattle.zp_lives.proofs.laws.one_connection_alone_is_served.Goals as goal

pub returns-clause-accounted : goal.returns-clause-accounted
returns-clause-accounted c = alone-served

pub returns-clause-first : goal.returns-clause-first
returns-clause-first c = alone-from-the-first
