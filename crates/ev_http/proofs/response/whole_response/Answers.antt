use Rattle.std.proofs.Common.{[], sym, ◌∙◌, append-nil}
use Rattle.ev_http.proofs.response.whole_response.Goals as goal

pub returns-in-Ok-Complete-clause-found : goal.returns-in-Ok-Complete-clause-found
returns-in-Ok-Complete-clause-found c = λ h is eq few. (rw c.in-Ok-Complete.field-0-is at c.in-Ok-Complete.ensures.found) h [] (is, eq ∙ sym (append-nil _)) few

pub returns-in-Ok-Partial-clause-found : goal.returns-in-Ok-Partial-clause-found
returns-in-Ok-Partial-clause-found c = λ h is eq few. (rw c.in-Ok-Partial.field-0-is at c.in-Ok-Partial.ensures.found) h [] (is, eq ∙ sym (append-nil _)) few
