use Rattle.ev_types.proofs.Found.{found-key}
use Rattle.ev_types.proofs.laws.one_key_is_found.Goals as goal

pub returns : goal.returns
returns c = found-key
