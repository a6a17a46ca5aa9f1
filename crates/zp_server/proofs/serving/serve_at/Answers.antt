use Rattle.zp_server.proofs.Counting.{stops_end}
use Rattle.zp_server.proofs.serving.serve_at.Goals as goal

pub returns-in-Ok-clause-stops : goal.returns-in-Ok-clause-stops
returns-in-Ok-clause-stops g c = stops_end _ c.await_all.result _ _ _ _ _ (rw c.in-Ok.is at c.accept_all-accepted.ensures.stops) (c.await_all.ensures.goes _ _)

pub returns-in-Err-clause-stops : goal.returns-in-Err-clause-stops
returns-in-Err-clause-stops g c = c.waited_for.ensures.stops _ _ _ _ (rw c.in-Err.is at c.accept_all-accepted.ensures.stops)

pub returns-in-Err-clause-found : goal.returns-in-Err-clause-found
returns-in-Err-clause-found g c = c.waited_for.ensures.found (rw c.in-Err.is at c.accept_all-accepted.ensures.found)
