use Rattle.ev_json.specs.Bodies.{ReadsAs}
use Rattle.ev_json.proofs.Fitting.{answer_fits, ask_fits, watch_fits, line_fits}
use Rattle.ev_json.proofs.laws.what_is_read_fits.Goals as goal

pub returns-clause-answers : goal.returns-clause-answers
unfolding ReadsAs
returns-clause-answers c = λ asked a body h. answer_fits asked h.1 a h.3

pub returns-clause-asks : goal.returns-clause-asks
unfolding ReadsAs
returns-clause-asks c = λ to a body h. ask_fits to h.1 a h.3

pub returns-clause-watches : goal.returns-clause-watches
unfolding ReadsAs
returns-clause-watches c = λ from key body h. watch_fits h.1 from key h.3

pub returns-clause-lines : goal.returns-clause-lines
unfolding ReadsAs
returns-clause-lines c = λ l bytes h. line_fits h.1 l h.3
