use Rattle.ev_json.specs.Messages.{ask_data, ask_text, answer_data, answer_text, watch_data, watch_text, line_data, line_text}
use Rattle.ev_json.proofs.AnswerBack.{plain-answer}
use Rattle.ev_json.proofs.AskBack.{plain-ask, plain-watch}
use Rattle.ev_json.proofs.LineBack.{plain-line}
use Rattle.ev_fields.proofs.Rising.{read-plain}
use Rattle.ev_json.proofs.laws.texts_are_json.Goals as goal

pub returns-clause-asks : goal.returns-clause-asks
unfolding ask_text
returns-clause-asks c = λ a. read-plain (ask_data a) (plain-ask a)

pub returns-clause-answers : goal.returns-clause-answers
unfolding answer_text
returns-clause-answers c = λ a. read-plain (answer_data a) (plain-answer a)

pub returns-clause-watches : goal.returns-clause-watches
unfolding watch_text
returns-clause-watches c = λ from key. read-plain (watch_data from key) (plain-watch from key)

pub returns-clause-lines : goal.returns-clause-lines
unfolding line_text
returns-clause-lines c = λ kvs revision. read-plain (line_data kvs revision) (plain-line kvs revision)
