use Rattle.zp_verdict_laws.proofs.Verdict.{every-replay-lawful}
use Rattle.zp_verdict_laws.proofs.laws.every_replay_is_lawful.Goals as goal

pub returns : goal.returns
returns c = every-replay-lawful
