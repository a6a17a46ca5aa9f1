use Rattle.std.proofs.Common.{◌≡◌, ℕ, ℤ, None, Some, ap, sym, ◌∙◌, rules, w64, to_z, of_z}
use Rattle.std.specs.Prelude.{option_map}
use Rattle.std.proofs.lemmas.Int.{to_z-of_z}
use Rattle.zk_service.specs.Answers.{xid_of, plain_reply}
use Rattle.zk_transcript.specs.Walks.{plain_answer}
use Rattle.zk_judge.specs.Seen.{frame_as, said_of, walker_of}
use Rattle.zk_judge.proofs.PlainAnswers.{plainly-none, plainly-said, said-sent}
use Rattle.zk_judge.proofs.steps.answer_frame_plainly.Goals as goal

pub plain_answer-requires-clause-sent : goal.plain_answer-requires-clause-sent
plain_answer-requires-clause-sent c =
    said-sent c.args.walker.watches (frame_as c.in_ok-frame.frame) (said_of c.in-Some.said) (sym (ap (option_map said_of) c.in-Some.is) ∙ c.in_ok-said.ensures)

pub returns-in-Some : goal.returns-in-Some
returns-in-Some c =
    let w = walker_of c.args.walker in
    let x = frame_as c.in_ok-frame.frame in
    let t = said_of c.in-Some.said in
    let said : Some t ≡ plain_reply c.args.walker.watches x = sym (ap (option_map said_of) c.in-Some.is) ∙ c.in_ok-said.ensures in
    let zxid : to_z w64 (of_z w64 c.args.walker.zxid) ≡ c.args.walker.zxid = to_z-of_z w64 c.args.walker.zxid (search rules) in
    c.in_ok-plain_answer-in-Some.ensures
    ∙ ap (λ (z : ℤ). plain_answer (record w { zxid = z }) c.later_of-first.result (xid_of x) (Some t)) zxid
    ∙ ap (λ (k : ℕ). plain_answer w k (xid_of x) (Some t)) c.later_of-first.ensures
    ∙ plainly-said w c.args.place c.args.bytes.now x t c.in_ok-frame.ensures said

pub returns : goal.returns
returns c =
    let w = walker_of c.args.walker in
    let x = frame_as c.in_ok-frame.frame in
    let said : None ≡ plain_reply c.args.walker.watches x = sym (ap (option_map said_of) c.in-None.is) ∙ c.in_ok-said.ensures in
    plainly-none w c.args.place c.args.bytes.now x c.in_ok-frame.ensures said
