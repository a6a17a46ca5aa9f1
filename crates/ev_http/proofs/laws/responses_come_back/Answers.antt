use Rattle.ev_http.proofs.Spelled.{response_form, response_back, good_response_back}
use Rattle.ev_http.proofs.laws.responses_come_back.Goals as goal

pub returns-clause-form : goal.returns-clause-form
returns-clause-form c = response_form

pub returns-clause-status : goal.returns-clause-status
returns-clause-status c = response_back

pub returns-clause-good : goal.returns-clause-good
returns-clause-good c = good_response_back
