use Rattle.zk_transcript.proofs.Conditions.{reaped-lapsed}
use Rattle.zk_transcript.proofs.laws.reaped_sessions_had_lapsed.Goals as goal

pub returns : goal.returns
returns c = reaped-lapsed
