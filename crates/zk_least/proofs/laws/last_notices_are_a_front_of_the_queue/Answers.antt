use Rattle.zk_least.proofs.LastNotices.{last-notices-law}
use Rattle.zk_least.proofs.laws.last_notices_are_a_front_of_the_queue.Goals as goal

pub returns : goal.returns
returns c = last-notices-law
