use Rattle.zk_judge.proofs.Stages.{never-closed}
use Rattle.zk_judge.proofs.conversations.are_before_close.Goals as goal

pub returns-in-None : goal.returns-in-None
returns-in-None c = never-closed c.args.index.now.lines.now c.args.connection c.in-None.ensures
