use Rattle.std.proofs.Common.{ℕ, ◌++◌, ◌∷◌, [], Option, sym, subst}
use Rattle.zk_transcript.specs.Conversations.{IsLawfulAndFresh}
use Rattle.zk_judge.specs.Staged.{IsLeastOf}
use Rattle.zk_judge.proofs.Opened.{least-lawful, least-unlawful, not-both}
use Rattle.zk_judge.proofs.judging.with_verdict.Goals as goal

pub returns-then-is_lawful : goal.returns-then-is_lawful
returns-then-is_lawful c = λ lines cs stands least.
    least-lawful (IsLawfulAndFresh lines) cs c.args.conversation.now.connection c.args.found ((c.is_lawful.ensures lines stands).0 c.if-is_lawful.true) least

pub returns-else-is_lawful : goal.returns-else-is_lawful
returns-else-is_lawful c = λ lines cs stands least.
    subst (λ (o : Option ℕ). IsLeastOf (IsLawfulAndFresh lines) (cs ++ c.args.conversation.now.connection ∷ []) o) (sym c.lesser.ensures)
    (least-unlawful (IsLawfulAndFresh lines) cs c.args.conversation.now.connection c.args.found (λ lawful. not-both c.is_lawful.result ((c.is_lawful.ensures lines stands).1 lawful) c.if-is_lawful.false) least)
