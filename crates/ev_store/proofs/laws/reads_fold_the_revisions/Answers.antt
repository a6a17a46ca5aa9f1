use Rattle.ev_store.proofs.Past.{store_at-none, store_at-next, store_at-last, read-present, read-named}
use Rattle.ev_store.proofs.laws.reads_fold_the_revisions.Goals as goal

pub returns-clause-none : goal.returns-clause-none
returns-clause-none c = store_at-none

pub returns-clause-next : goal.returns-clause-next
returns-clause-next c = store_at-next

pub returns-clause-last : goal.returns-clause-last
returns-clause-last c = store_at-last

pub returns-clause-now : goal.returns-clause-now
returns-clause-now c = read-present

pub returns-clause-named : goal.returns-clause-named
returns-clause-named c = read-named
