use Rattle.zk_transcript.proofs.Conditions.{session-offered}
use Rattle.zk_transcript.proofs.laws.sessions_begin_as_offered.Goals as goal

pub returns : goal.returns
returns c = session-offered
