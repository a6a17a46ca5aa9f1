use Rattle.std.proofs.Common.{◌≡◌, Bool, Some, None, ap, sym, ◌∙◌, subst, IfOk}
use Rattle.zk_jute.specs.Requests.{Frame}
use Rattle.zk_model.specs.Watches.{no_watches}
use Rattle.zk_service.specs.Answers.{plain_reply}
use Rattle.zk_least.specs.LeastWalk.{is_plain}
use Rattle.zk_judge.specs.Seen.{frame_as, reply_in}
use Rattle.zk_judge.proofs.PlainAnswers.{plain-is, plain-is-not, plain-sent}
use Rattle.zk_judge.proofs.walks.is_plain.Goals as goal

pub is_either-requires : goal.is_either-requires
is_either-requires c = plain-sent (frame_as c.in_ok-frame.frame) c.in-Some.answer (sym c.in-Some.is ∙ c.in_ok-answer.ensures)

pub returns-in-Some : goal.returns-in-Some
returns-in-Some c =
    let x = frame_as c.in_ok-frame.frame in
    let answered : Some c.in-Some.answer ≡ reply_in (plain_reply no_watches x) = sym c.in-Some.is ∙ c.in_ok-answer.ensures in
    let same =
    plain-is x (plain_reply no_watches x) c.in-Some.answer c.args.reply.now answered ∙ ap (λ (y : Frame). is_plain y (plain_reply no_watches y) c.args.reply.now) c.in_ok-frame.ensures in
    subst (λ (b : Bool). IfOk c.is_either.result (λ r. r ≡ b)) same c.is_either.ensures

pub returns : goal.returns
returns c =
    let x = frame_as c.in_ok-frame.frame in
    let unanswered : None ≡ reply_in (plain_reply no_watches x) = sym c.in-None.is ∙ c.in_ok-answer.ensures in
    plain-is-not x (plain_reply no_watches x) c.args.reply.now unanswered ∙ ap (λ (y : Frame). is_plain y (plain_reply no_watches y) c.args.reply.now) c.in_ok-frame.ensures
