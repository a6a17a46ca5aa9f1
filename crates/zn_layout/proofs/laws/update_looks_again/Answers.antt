use Rattle.zn_layout.proofs.Again.{update-looks_again}
use Rattle.zn_layout.proofs.laws.update_looks_again.Goals as goal

pub returns : goal.returns
returns c = update-looks_again
