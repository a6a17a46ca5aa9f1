use Rattle.ev_store.proofs.Denying.{named-denied}
use Rattle.ev_store.proofs.Lapsing.{lapse-named, foreign-named}
use Rattle.ev_store.proofs.Past.{compact-named}
use Rattle.ev_store.proofs.laws.a_denial_is_named.Goals as goal

pub returns-clause-asks : goal.returns-clause-asks
returns-clause-asks c = named-denied

pub returns-clause-lapses : goal.returns-clause-lapses
returns-clause-lapses c = lapse-named

pub returns-clause-foreign : goal.returns-clause-foreign
returns-clause-foreign c = foreign-named

pub returns-clause-compactions : goal.returns-clause-compactions
returns-clause-compactions c = compact-named
