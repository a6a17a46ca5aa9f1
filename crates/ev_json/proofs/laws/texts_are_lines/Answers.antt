use Rattle.ev_json.specs.Messages.{answer_text, line_text}
use Rattle.ev_json.proofs.AnswerBack.{plain-answer}
use Rattle.ev_json.proofs.LineBack.{plain-line}
use Rattle.ev_json.proofs.Lines.{first_line-feed}
use Rattle.ev_json.proofs.laws.texts_are_lines.Goals as goal

pub returns-clause-answers : goal.returns-clause-answers
unfolding answer_text
returns-clause-answers c = λ a. (plain-answer a).inside

pub returns-clause-lines : goal.returns-clause-lines
unfolding line_text
returns-clause-lines c = λ kvs revision. (plain-line kvs revision).inside

pub returns-clause-ended : goal.returns-clause-ended
returns-clause-ended c = first_line-feed
