use Rattle.std.proofs.Common.{◌≡◌, true, false, Option, Some, None, ap, sym, ◌∙◌, subst, IfOk}
use Rattle.std.specs.Prelude.{is_some, option_and_then, option_map}
use Rattle.zk_model.specs.declared.request.Request.{Request}
use Rattle.zk_service.specs.States.{session_at}
use Rattle.zk_service.specs.Answers.{Told, owned_limit_in, tree_reply}
use Rattle.zk_transcript.specs.History.{asked_in}
use Rattle.zk_answers.specs.Outcomes.{told_of}
use Rattle.zk_judge.specs.Seen.{frame_as}
use Rattle.zk_judge.proofs.PlainAnswers.{looked-plain, looked-tree}
use Rattle.zk_judge.proofs.Running.{asked-looks}
use Rattle.zk_judge.proofs.answers.looked.Goals as goal
use denote.Ref.{Bor}

request_of : Option (Bor Request) → Option Request
request_of o = option_map {U = Request} (λ r. r.now) o

pub returns-then-is_some : goal.returns-then-is_some
returns-then-is_some c =
    let some : is_some c.in_ok-plain_reply.field-0 ≡ true = cc in
    looked-plain c.args.state.now (owned_limit_in (session_at c.args.party.session c.args.state.now)) c.args.party.session c.args.watches (frame_as c.args.frame.now) c.in_ok-plain_reply.field-0 c.in_ok-plain_reply.ensures some

pub tree_answer-requires : goal.tree_answer-requires
unfolding request_of
tree_answer-requires c =
    let asks : Some c.in-Some.request.now ≡ asked_in (frame_as c.args.frame.now) = ap request_of (sym c.in-Some.is) ∙ c.asked.ensures in
    asked-looks c.args.state.now.tree _ _ (frame_as c.args.frame.now) c.in-Some.request.now c.requires.whole c.requires.short asks

pub returns-in-Some : goal.returns-in-Some
unfolding request_of
returns-in-Some c =
    let s = c.args.state.now in
    let id = c.args.party.session in
    let limit = owned_limit_in (session_at id s) in
    let x = frame_as c.args.frame.now in
    let none : is_some c.in_ok-plain_reply.field-0 ≡ false = cc in
    let asks : Some c.in-Some.request.now ≡ asked_in x = ap request_of (sym c.in-Some.is) ∙ c.asked.ensures in
    let same = ap (option_and_then (tree_reply s.tree limit id c.args.watches)) asks ∙ looked-tree s limit id c.args.watches x c.in_ok-plain_reply.field-0 c.in_ok-plain_reply.ensures none in
    subst (λ (y : Option Told). IfOk c.tree_answer.result (λ o. option_map told_of o ≡ y)) same c.tree_answer.ensures

pub returns-in-None : goal.returns-in-None
unfolding request_of
returns-in-None c =
    let s = c.args.state.now in
    let id = c.args.party.session in
    let limit = owned_limit_in (session_at id s) in
    let x = frame_as c.args.frame.now in
    let none : is_some c.in_ok-plain_reply.field-0 ≡ false = cc in
    let asks : None ≡ asked_in x = ap request_of (sym c.in-None.is) ∙ c.asked.ensures in
    ap (option_and_then (tree_reply s.tree limit id c.args.watches)) asks ∙ looked-tree s limit id c.args.watches x c.in_ok-plain_reply.field-0 c.in_ok-plain_reply.ensures none
