use Rattle.zk_least.proofs.ChoiceCounts.{places-rise}
use Rattle.zk_least.proofs.laws.places_do_not_fall.Goals as goal

pub returns : goal.returns
returns c = places-rise
