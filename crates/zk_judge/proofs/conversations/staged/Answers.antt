use Rattle.std.proofs.Common.{subst}
use Rattle.zk_transcript.specs.Conversations.{IsLawfulAndFresh}
use Rattle.zk_judge.specs.Staged.{IsStaged, MayBeRefused}
use Rattle.zk_judge.specs.declared.conversations.Stage.{Stage}
use Rattle.zk_judge.proofs.Stages.{deciding, staged}
use Rattle.zk_judge.proofs.conversations.staged.Goals as goal

pub returns-in-Refused : goal.returns-in-Refused
returns-in-Refused c =
    let lines = c.args.index.now.lines.now in
    let was = subst (λ (s : Stage). IsStaged lines c.args.moment c.args.connection s) c.in-Refused.is c.requires.stands in
    staged lines _ c.args.connection c.refused.result
    (deciding lines _ (MayBeRefused lines c.in-Refused.first c.in-Refused.last c.in-Refused.request) (IsLawfulAndFresh lines c.args.connection) c.refused.result was.0
    (c.refused.ensures lines was.3 c.requires.state))
