use Rattle.zp_laws.proofs.Attachments.{session-attached}
use Rattle.zp_laws.proofs.laws.a_session_is_attached.Goals as goal

pub returns : goal.returns
returns c = session-attached
