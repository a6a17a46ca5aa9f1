use Rattle.ev_types.proofs.Allowed.{reads-not_denied}
use Rattle.ev_types.proofs.Transactions.{unchanged-reads}
use Rattle.ev_types.proofs.laws.reads_change_nothing.Goals as goal

pub returns-clause-allowed : goal.returns-clause-allowed
returns-clause-allowed c = reads-not_denied

pub returns-clause-unchanged : goal.returns-clause-unchanged
returns-clause-unchanged c = unchanged-reads
