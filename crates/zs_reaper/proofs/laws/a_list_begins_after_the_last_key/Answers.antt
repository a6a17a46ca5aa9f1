use Rattle.zs_reaper.proofs.Lapsing.{after_the_last}
use Rattle.zs_reaper.proofs.laws.a_list_begins_after_the_last_key.Goals as goal

pub returns : goal.returns
returns c = after_the_last
