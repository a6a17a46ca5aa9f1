use Rattle.ev_json.proofs.AnswerBack.{answer_back}
use Rattle.ev_json.proofs.AskBack.{ask_back, watch_back}
use Rattle.ev_json.proofs.LineBack.{line_back}
use Rattle.ev_json.proofs.laws.messages_come_back.Goals as goal

pub returns-clause-asks : goal.returns-clause-asks
returns-clause-asks c = ask_back

pub returns-clause-answers : goal.returns-clause-answers
returns-clause-answers c = answer_back

pub returns-clause-watches : goal.returns-clause-watches
returns-clause-watches c = watch_back

pub returns-clause-lines : goal.returns-clause-lines
returns-clause-lines c = line_back
