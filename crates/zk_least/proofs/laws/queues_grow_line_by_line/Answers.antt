use Rattle.zk_least.proofs.Queues.{queue-law}
use Rattle.zk_least.proofs.laws.queues_grow_line_by_line.Goals as goal

pub returns : goal.returns
returns c = queue-law
