use Rattle.std.proofs.Common.{◌≡◌}
use Rattle.zp_conn.specs.Turning.{Stood}
use Rattle.zp_conn.specs.declared.inputs.Next.TheVariants as next
use Rattle.zp_conn.proofs.serving.run.Given as goal

abbrev pub invariant-turns : goal.invariant-turns
invariant-turns g l = (goal.iterator-turns g).can_next l.iterator' × (goal.iterator-turns g).is_finite l.iterator' × Stood l.fn.fresh
    (record { source = record { given = g.S.Source.given l.fn.source; left = g.S.Source.left l.fn.source; faults = (g.S.Source.counts l.fn.source).faults; ended = g.S.Source.ended l.fn.source }; sink = record { taken = g.K.Sink.taken l.fn.sink; counts = g.K.Sink.counts l.fn.sink }; link = record { calls = g.L.Etcd.told l.fn.link; failures = g.L.Etcd.failures l.fn.link }; feed = record { list = g.F.Feed.list l.fn.feed; reads = g.F.Feed.reads l.fn.feed; lags = g.F.Feed.lags l.fn.feed; closings = g.F.Feed.closings l.fn.feed }; notes = g.T.Trace.told l.fn.trace })
    (record { source = record { given = g.S.Source.given l.source; left = g.S.Source.left l.source; faults = (g.S.Source.counts l.source).faults; ended = g.S.Source.ended l.source }; sink = record { taken = g.K.Sink.taken l.sink; counts = g.K.Sink.counts l.sink }; link = record { calls = g.L.Etcd.told l.link; failures = g.L.Etcd.failures l.link }; feed = record { list = g.F.Feed.list l.feed; reads = g.F.Feed.reads l.feed; lags = g.F.Feed.lags l.feed; closings = g.F.Feed.closings l.feed }; notes = g.T.Trace.told l.trace })
    l.core l.inbox l.outbox l.asked next.Idle
    × (g.S.Source.name l.source ≡ g.S.Source.name l.fn.source) × (g.K.Sink.name l.sink ≡ g.K.Sink.name l.fn.sink)
