use Rattle.zn_view.proofs.LastUpdate.{last_update-told}
use Rattle.zn_view.proofs.laws.the_last_update_is_told.Goals as goal

pub returns : goal.returns
returns c = last_update-told
