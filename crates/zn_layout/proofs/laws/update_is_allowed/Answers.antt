use Rattle.zn_layout.proofs.Denials.{update-not_denied}
use Rattle.zn_layout.proofs.laws.update_is_allowed.Goals as goal

pub returns : goal.returns
returns c = update-not_denied
