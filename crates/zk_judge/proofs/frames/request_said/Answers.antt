use Rattle.zk_judge.proofs.PlainAnswers.{other-watches}
use Rattle.zk_judge.proofs.frames.request_said.Goals as goal

pub other_said-requires : goal.other_said-requires
other_said-requires c = λ xid. other-watches xid c.args.request.now c.in_default.not-CheckWatches c.in_default.not-RemoveWatches
