use Rattle.std.proofs.Common.{◌≡◌, List, Option, take, refl, subst, sym, IfOk}
use Rattle.std.specs.Prelude.{option_map}
use Rattle.zk_transcript.specs.Walks.{Due, Walker}
use Rattle.zk_judge.specs.Seen.{step_of, walker_of}
use Rattle.zk_judge.proofs.AnswersAsOf.{answer-asked, answer-beyond, answer-over, answer-unframed}
use Rattle.zk_judge.proofs.steps.answer_as_of.Goals as goal

pub returns-then-walker : goal.returns-then-walker
returns-then-walker c = answer-over c.args.index.now.lines.now c.args.party.connection c.args.party.session (walker_of c.args.walker) c.args.moment c.if-walker.true

pub returns-then-index-moment : goal.returns-then-index-moment
returns-then-index-moment c = answer-beyond c.args.index.now.lines.now c.args.party.connection c.args.party.session (walker_of c.args.walker) c.args.moment c.if-index-moment.true

pub answer_asked-requires-clause-asked : goal.answer_asked-requires-clause-asked
answer_asked-requires-clause-asked c = rw c.in-Some.is at c.in_ok-asked.ensures.found

pub answer_asked-requires-clause-next : goal.answer_asked-requires-clause-next
answer_asked-requires-clause-next c = rw c.in-Some.is at c.in_ok-asked.ensures.index

pub returns-in-None : goal.returns-in-None
returns-in-None c =
    answer-unframed c.args.index.now.lines.now c.args.party.connection c.args.party.session (walker_of c.args.walker) c.args.moment c.if-walker.false c.if-index-moment.false
    (sym (rw c.in-None.is at c.in_ok-asked.ensures.found))

pub returns-in-Some : goal.returns-in-Some
returns-in-Some c =
    let lines = c.args.index.now.lines.now in
    let w = walker_of c.args.walker in
    let found = rw c.in-Some.is at c.in_ok-asked.ensures.found in
    let next = rw c.in-Some.is at c.in_ok-asked.ensures.index in
    let same =
    answer-asked lines (take c.args.moment lines) c.args.party.connection c.args.party.session w c.args.moment c.in-Some.asked.index c.in-Some.asked.own refl c.if-walker.false c.if-index-moment.false found.own next in
    subst (λ (y : Option (Walker × List Due)). IfOk c.answer_asked.result (λ o. option_map step_of o ≡ y)) same c.answer_asked.ensures
