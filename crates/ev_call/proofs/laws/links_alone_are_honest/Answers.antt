use Rattle.ev_call.proofs.Alone.{honest}
use Rattle.ev_call.proofs.laws.links_alone_are_honest.Goals as goal

pub returns : goal.returns
returns c = honest
