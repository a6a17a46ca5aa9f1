use Rattle.zp_laws.proofs.NewSessions.{new_session-commits}
use Rattle.zp_laws.proofs.laws.a_new_session_commits.Goals as goal

pub returns : goal.returns
returns c = new_session-commits
