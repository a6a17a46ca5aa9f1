use Rattle.std.proofs.Common.{ap, sym, ◌∙◌}
use Rattle.std.specs.Prelude.{option_map}
use Rattle.zk_model.specs.Watches.{Watches}
use Rattle.zk_service.specs.Answers.{plain_request}
use Rattle.zk_answers.specs.Outcomes.{told_of}
use Rattle.zk_judge.specs.Seen.{reply_in}
use Rattle.zk_judge.proofs.frames.plain_answer.Goals as goal

pub returns-in-Some : goal.returns-in-Some
returns-in-Some c =
    ap reply_in (sym (ap (option_map told_of) c.in-Some.is) ∙ c.in_ok-told.ensures ∙ ap (λ (w : Watches). plain_request w c.args.request.now) c.new.ensures)

pub returns : goal.returns
returns c =
    ap reply_in (sym (ap (option_map told_of) c.in-None.is) ∙ c.in_ok-told.ensures ∙ ap (λ (w : Watches). plain_request w c.args.request.now) c.new.ensures)
