use Rattle.zk_least.proofs.Replies.{least-replies-law}
use Rattle.zk_least.proofs.laws.least_walk_goes_reply_by_reply.Goals as goal

pub returns : goal.returns
returns c = least-replies-law
