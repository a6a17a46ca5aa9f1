use Rattle.zn_layout.proofs.Again.{begin-again}
use Rattle.zn_layout.proofs.laws.begin_again_changes_nothing.Goals as goal

pub returns : goal.returns
returns c = begin-again
