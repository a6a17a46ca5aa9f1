use Rattle.zw_follow.specs.Dials.{telling}
use Rattle.zw_follow.proofs.Dialling.{follows_closed}
use Rattle.zw_follow.proofs.following.follow_and_ring.Goals as goal

pub close-end-requires-clause-is_open : goal.close-end-requires-clause-is_open
close-end-requires-clause-is_open g c = c.in-Some.ensures.0

pub close-end-requires-clause-proper : goal.close-end-requires-clause-proper
close-end-requires-clause-proper g c = c.in-Some.ensures.2

pub returns : goal.returns
returns g c = follows_closed (telling g.N.In.Source.given g.N.In.Source.left g.N.In.Source.counts g.N.In.Source.ended g.N.In.Source.name g.N.Out.Sink.taken g.N.Out.Sink.counts g.N.Out.Sink.name) _ c.in-Some.end c.close-end.result _ _ _ _ _ _ _ _ c.in-Some.ensures c.close-end.ensures.same c.close-end.ensures.closed
