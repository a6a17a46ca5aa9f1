use Rattle.ev_types.proofs.Lapsed.{lapse-zero, lapse-there, lapse-lapses, lapse-keys, lapse-lease, lapse-one, lapse-none, lapse-earlier}
use Rattle.ev_types.proofs.laws.lapse_takes_its_keys.Goals as goal

pub returns-clause-zero : goal.returns-clause-zero
returns-clause-zero c = lapse-zero

pub returns-clause-there : goal.returns-clause-there
returns-clause-there c = lapse-there

pub returns-clause-lapses : goal.returns-clause-lapses
returns-clause-lapses c = lapse-lapses

pub returns-clause-keys : goal.returns-clause-keys
returns-clause-keys c = lapse-keys

pub returns-clause-lease : goal.returns-clause-lease
returns-clause-lease c = lapse-lease

pub returns-clause-one : goal.returns-clause-one
returns-clause-one c = lapse-one

pub returns-clause-none : goal.returns-clause-none
returns-clause-none c = lapse-none

pub returns-clause-earlier : goal.returns-clause-earlier
returns-clause-earlier c = lapse-earlier
