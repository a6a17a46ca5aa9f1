use Rattle.std.proofs.Common.{◌≡◌, List, Option, true, false, ◌&&◌, subst, ◌∙◌, IfOk}
use Rattle.std.specs.Prelude.{option_map}
use Rattle.zk_transcript.specs.Walks.{Due, Walker, may_answer_at}
use Rattle.zk_service.specs.Answers.{has_header}
use Rattle.zk_judge.specs.Seen.{fired_of, frame_as, step_of, walker_of}
use Rattle.zk_judge.proofs.AnswersAsOf.{answer-fired, answered, asked-placed, not-answered}
use Rattle.zk_judge.proofs.steps.answer_asked.Goals as goal

pub returns-then-not-may_answer : goal.returns-then-not-may_answer
returns-then-not-may_answer c =
    let past = c.args.past.now in
    let lines = c.args.index.now.lines.now in
    let conn = c.args.party.connection in
    let id = c.args.party.session in
    let w = walker_of c.args.walker in
    let asked = c.args.asked.now in
    let is = c.requires.asked in
    let x = frame_as asked.read in
    let may : (may_answer_at past w && has_header x) ≡ false = cc in
    not-answered past conn id w asked.own asked.place is.bytes x is.reads may ∙ asked-placed lines past conn id w asked.own asked.index (asked.place, is.bytes) is.placed c.requires.next

pub returns : goal.returns
returns c =
    let past = c.args.past.now in
    let lines = c.args.index.now.lines.now in
    let conn = c.args.party.connection in
    let id = c.args.party.session in
    let w = walker_of c.args.walker in
    let asked = c.args.asked.now in
    let is = c.requires.asked in
    let x = frame_as asked.read in
    let may : (may_answer_at past w && has_header x) ≡ true = cc in
    let same =
    answer-fired past conn id w asked.own asked.place asked.index x (fired_of c.in_ok-fired.fired) c.requires.next c.in_ok-fired.ensures
    ∙ answered past conn id w asked.own asked.place is.bytes x is.reads may
    ∙ asked-placed lines past conn id w asked.own asked.index (asked.place, is.bytes) is.placed c.requires.next in
    subst (λ (y : Option (Walker × List Due)). IfOk c.answer_fired.result (λ o. option_map step_of o ≡ y)) same c.answer_fired.ensures
