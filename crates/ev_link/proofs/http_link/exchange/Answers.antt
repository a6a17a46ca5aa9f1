use Rattle.std.proofs.Common.{ℕ, List, subst}
use Rattle.ev_json.specs.Answers.{answer_in}
use Rattle.ev_json.specs.Bodies.{FaultOf, message_body, reads}
use Rattle.ev_link.proofs.http_link.exchange.Goals as goal

pub returns-in-Ok-read_answer : goal.returns-in-Ok-read_answer
returns-in-Ok-read_answer g c =
    let P : List ℕ → Type 0 = λ body. reads c.args.ask.now body c.in-Ok-read_answer.answer in
    (c.in_default.ensures, c.in-Ok.body, c.in-Ok.ensures, subst P c.as_slice.ensures.value c.in-Ok-read_answer.ensures.read)

pub returns : goal.returns
returns g c =
    let P : List ℕ → Type 0 = λ body. FaultOf (answer_in c.args.ask.now) (message_body c.args.ask.now body) c.in-Err-read_answer.fault in
    (c.in_default.ensures, c.in-Ok.body, c.in-Ok.ensures, subst P c.as_slice.ensures.value c.in-Err-read_answer.ensures.fault)
