use Rattle.ev_json.proofs.Broken.{ask_err, answer_err, watch_err, line_err}
use Rattle.ev_json.proofs.laws.named_members_break_rules.Goals as goal

pub returns-clause-asks : goal.returns-clause-asks
returns-clause-asks c = ask_err

pub returns-clause-answers : goal.returns-clause-answers
returns-clause-answers c = answer_err

pub returns-clause-watches : goal.returns-clause-watches
returns-clause-watches c = watch_err

pub returns-clause-lines : goal.returns-clause-lines
returns-clause-lines c = line_err
