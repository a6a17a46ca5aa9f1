use Rattle.zp_lives.proofs.Followed.{given}
use Rattle.zp_lives.proofs.laws.followers_give_the_stores_entries.Goals as goal

pub returns : goal.returns
returns c = given
