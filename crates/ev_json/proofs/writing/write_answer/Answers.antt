use Rattle.ev_json.proofs.Returns.{answer_inside}
use Rattle.ev_json.proofs.writing.write_answer.Goals as goal

pub returns-clause-one_line : goal.returns-clause-one_line
returns-clause-one_line c = answer_inside c.args.answer.now c.in_ok-text.text.items c.in_ok-text.ensures.text
