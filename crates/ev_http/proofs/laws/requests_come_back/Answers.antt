use Rattle.ev_http.proofs.Spelled.{request_back, request_form}
use Rattle.ev_http.proofs.laws.requests_come_back.Goals as goal

pub returns-clause-form : goal.returns-clause-form
returns-clause-form c = request_form

pub returns-clause-read : goal.returns-clause-read
returns-clause-read c = request_back
