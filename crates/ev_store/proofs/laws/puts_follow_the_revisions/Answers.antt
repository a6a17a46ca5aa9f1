use Rattle.ev_store.proofs.Past.{puts_above-next, puts_in-puts, puts_in-revision, puts-shown}
use Rattle.ev_store.proofs.Putting.{puts_above-none}
use Rattle.ev_store.proofs.laws.puts_follow_the_revisions.Goals as goal

pub returns-clause-next : goal.returns-clause-next
returns-clause-next c = puts_above-next

pub returns-clause-last : goal.returns-clause-last
returns-clause-last c = puts_above-none

pub returns-clause-each : goal.returns-clause-each
returns-clause-each c = puts_in-puts

pub returns-clause-revision : goal.returns-clause-revision
returns-clause-revision c = puts_in-revision

pub returns-clause-shown : goal.returns-clause-shown
returns-clause-shown c = puts-shown
