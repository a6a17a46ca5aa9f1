use Rattle.zp_server.proofs.Stopping.{stops_rest}
use Rattle.zp_server.proofs.serving.waited_for.Goals as goal

pub returns-in-Feed-clause-stops : goal.returns-in-Feed-clause-stops
returns-in-Feed-clause-stops g c = λ size net limit first stops. stops_rest _ _ c.await_rest.result _ _ _ _ _ _ (rw c.in-Feed.is at stops) (c.await_rest.ensures.halts size net (rw c.in-Feed.is at stops).may)

pub returns-in-Feed-clause-found : goal.returns-in-Feed-clause-found
returns-in-Feed-clause-found g c = λ found. c.await_rest.ensures.found (rw c.in-Feed.is at found)
