use Rattle.zk_transcript.proofs.Ordered.{indices-rise}
use Rattle.zk_transcript.proofs.laws.requests_are_carried_out_in_order.Goals as goal

pub returns : goal.returns
returns c = indices-rise
