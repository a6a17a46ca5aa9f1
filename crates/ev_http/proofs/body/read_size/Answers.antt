use Rattle.ev_http.proofs.Feeds.{size_read, never_size, no_chunk-never}
use Rattle.ev_http.proofs.body.read_size.Goals as goal

pub returns-in-Ok-Complete : goal.returns-in-Ok-Complete
returns-in-Ok-Complete c = λ is. size_read _ _ _ is (rw c.in-Ok-Complete.field-0-is at c.in-Ok-Complete.ensures.complete)

pub returns-in-Ok-Partial : goal.returns-in-Ok-Partial
returns-in-Ok-Partial c = λ is. no_chunk-never _ (never_size _ is (rw c.in-Ok-Partial.field-0-is at c.in-Ok-Partial.ensures.partial))

pub returns-in-Err : goal.returns-in-Err
returns-in-Err c = λ is. no_chunk-never _ c.in-Err.ensures.invalid
