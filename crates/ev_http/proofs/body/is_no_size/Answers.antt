use Rattle.ev_http.proofs.Feeds.{size_there, size_may}
use Rattle.ev_http.proofs.body.is_no_size.Goals as goal

pub returns-in-Ok-Complete-clause-no : goal.returns-in-Ok-Complete-clause-no
returns-in-Ok-Complete-clause-no c = λ is never. size_there _ _ _ (rw c.in-Ok-Complete.field-0-is at c.in-Ok-Complete.ensures.complete) never

pub returns-in-Ok-Partial-clause-no : goal.returns-in-Ok-Partial-clause-no
returns-in-Ok-Partial-clause-no c = λ is never. size_may _ (rw c.in-Ok-Partial.field-0-is at c.in-Ok-Partial.ensures.unfinished) never
