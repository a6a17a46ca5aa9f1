use Rattle.zk_least.proofs.RepeatedPlaces.{plain-reply-law}
use Rattle.zk_least.proofs.laws.queues_are_told_before_plain_replies.Goals as goal

pub returns : goal.returns
returns c = plain-reply-law
