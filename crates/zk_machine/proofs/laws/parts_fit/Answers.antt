use Rattle.zk_machine.proofs.WholeTrees.{parts-within}
use Rattle.zk_machine.proofs.laws.parts_fit.Goals as goal

pub returns : goal.returns
returns c = λ t parts whole small limit session zxid time. parts-within limit session zxid time t parts whole small
