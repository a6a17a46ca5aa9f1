use Rattle.std.proofs.Common.{◌+◌, length, subst, arith}
use Rattle.zk_judge.specs.Staged.{IsStaged}
use Rattle.zk_judge.specs.declared.conversations.Stage.{Stage}
use Rattle.zk_judge.proofs.Stages.{attached-within}
use Rattle.zk_judge.proofs.conversations.Conversation.is_lawful.Goals as goal

pub returns-in-Attached : goal.returns-in-Attached
returns-in-Attached c = λ lines stands.
    let staged = subst (λ (s : Stage). IsStaged lines (length lines + 1) c.args.self.now.connection s) c.in-Attached.is stands in
    absurd (omega (arith, attached-within lines c.args.self.now.connection c.in-Attached.place _ staged.0, staged.1))
