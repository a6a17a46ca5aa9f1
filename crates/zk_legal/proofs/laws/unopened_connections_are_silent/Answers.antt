use Rattle.zk_legal.proofs.WithoutFault.{unopened-silent}
use Rattle.zk_legal.proofs.laws.unopened_connections_are_silent.Goals as goal

pub returns : goal.returns
returns c = unopened-silent
