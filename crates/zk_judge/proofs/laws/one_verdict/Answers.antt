use Rattle.zk_judge.proofs.OneVerdict.{one_verdict}
use Rattle.zk_judge.proofs.laws.one_verdict.Goals as goal

pub returns : goal.returns
returns c = one_verdict
