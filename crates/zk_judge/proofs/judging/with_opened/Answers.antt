use Rattle.std.proofs.Common.{Some, ap, sym, ◌∙◌}
use Rattle.zk_judge.specs.Agendas.{HasConversation}
use Rattle.zk_judge.proofs.Opened.{none-more, one-more}
use Rattle.zk_judge.proofs.Replied.{both-ok}
use Rattle.zk_judge.proofs.judging.with_opened.Goals as goal

pub returns-in_ok-new-in-Some-clause-opened : goal.returns-in_ok-new-in-Some-clause-opened
returns-in_ok-new-in-Some-clause-opened c =
    let x = c.in_ok-new-in-Some.field-0 in
    both-ok c.with.result
    (λ a kept has before all. one-more before c.args.line.now (HasConversation c.args.agenda) (HasConversation a) x.connection (sym c.opened_by.ensures ∙ c.in-Some.is ∙ ap Some (sym c.in_ok-new-in-Some.ensures.connection)) kept has all)
    c.with.ensures.kept
    c.with.ensures.has

pub returns-in-None-clause-opened : goal.returns-in-None-clause-opened
returns-in-None-clause-opened c = λ before all. none-more before c.args.line.now (HasConversation c.args.agenda) (sym c.opened_by.ensures ∙ c.in-None.is) all
