use Rattle.ev_types.proofs.Lapsed.{foreign-puts, foreign-full, foreign-keys, foreign-leases, foreign-one, foreign-earlier}
use Rattle.ev_types.proofs.laws.foreign_puts_one_key.Goals as goal

pub returns-clause-puts : goal.returns-clause-puts
returns-clause-puts c = foreign-puts

pub returns-clause-full : goal.returns-clause-full
returns-clause-full c = foreign-full

pub returns-clause-keys : goal.returns-clause-keys
returns-clause-keys c = foreign-keys

pub returns-clause-leases : goal.returns-clause-leases
returns-clause-leases c = foreign-leases

pub returns-clause-one : goal.returns-clause-one
returns-clause-one c = foreign-one

pub returns-clause-earlier : goal.returns-clause-earlier
returns-clause-earlier c = foreign-earlier
