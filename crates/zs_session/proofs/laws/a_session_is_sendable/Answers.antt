use Rattle.zs_session.proofs.Sizes.{new_session-sendable, attachment-sendable}
use Rattle.zs_session.proofs.laws.a_session_is_sendable.Goals as goal

pub returns-clause-opened : goal.returns-clause-opened
returns-clause-opened c = new_session-sendable

pub returns-clause-attached : goal.returns-clause-attached
returns-clause-attached c = attachment-sendable
