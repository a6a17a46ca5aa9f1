use Rattle.zk_least.proofs.LeastWalkLaw.{attached-above-zero}
use Rattle.zk_least.proofs.laws.walks_begin_above_zero.Goals as goal

pub returns : goal.returns
returns c = attached-above-zero
