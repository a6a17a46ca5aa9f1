use Rattle.zk_judge.proofs.EachVerdict.{each-verdict}
use Rattle.zk_judge.proofs.laws.a_verdict_exists.Goals as goal

pub returns : goal.returns
returns c = each-verdict
