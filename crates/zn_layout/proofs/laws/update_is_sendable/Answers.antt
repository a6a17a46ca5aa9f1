use Rattle.zn_layout.proofs.Denials.{update_txn-size, update-sendable}
use Rattle.zn_layout.proofs.laws.update_is_sendable.Goals as goal

pub returns-clause-size : goal.returns-clause-size
returns-clause-size c = update_txn-size

pub returns-clause-sendable : goal.returns-clause-sendable
returns-clause-sendable c = update-sendable
