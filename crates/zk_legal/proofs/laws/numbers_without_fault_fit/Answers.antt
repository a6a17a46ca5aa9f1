use Rattle.zk_legal.proofs.Fitting.{all-fit}
use Rattle.zk_legal.proofs.laws.numbers_without_fault_fit.Goals as goal

pub returns : goal.returns
returns c = all-fit
