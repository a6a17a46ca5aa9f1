use Rattle.std.proofs.Common.{subst}
use Rattle.zk_judge.specs.Staged.{IsStaged}
use Rattle.zk_judge.specs.declared.conversations.Stage.{Stage}
use Rattle.zk_judge.proofs.Stages.{attached-within}
use Rattle.zk_judge.proofs.conversations.Conversation.awaited.Goals as goal

pub moment_after-requires : goal.moment_after-requires
moment_after-requires c =
    let lines = c.args.index.now.lines.now in
    let staged = subst (λ (s : Stage). IsStaged lines c.requires.0 c.args.self.now.connection s) c.in-Attached.is c.requires.1 in
    attached-within lines c.args.self.now.connection c.in-Attached.place _ staged.0
