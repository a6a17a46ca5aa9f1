use Rattle.ev_json.proofs.Spellings.{part-delete}
use Rattle.ev_json.proofs.straight.part.Goals as goal

pub returns-in_ok-answer-in-Delete : goal.returns-in_ok-answer-in-Delete
returns-in_ok-answer-in-Delete c = part-delete c.args.act.now c.in-Delete.key c.args.bytes.now c.in_ok-answer-in-Delete.rest.now c.in_ok-answer-in-Delete.answer c.in-Delete.is c.in_ok-answer-in-Delete.ensures
