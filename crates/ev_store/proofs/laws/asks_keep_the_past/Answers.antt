use Rattle.ev_store.proofs.Past.{carry-earlier}
use Rattle.ev_store.proofs.laws.asks_keep_the_past.Goals as goal

pub returns : goal.returns
returns c = carry-earlier
