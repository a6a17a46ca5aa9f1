use Rattle.std.proofs.Common.{◌≤◌, ◌^◌}
use Rattle.ev_http.specs.Taking.{told}
use Rattle.ev_gateway.specs.Looking.{Waits}
use Rattle.ev_http.specs.Sinks.{sink_told}
use Rattle.ev_gateway.proofs.Streaming.{Came}
use Rattle.ev_gateway.proofs.watching.watch.Given as goal

abbrev pub invariant-puts : goal.invariant-puts
invariant-puts g l =
    (goal.iterator-puts g).can_next l.iterator' × (goal.iterator-puts g).is_finite l.iterator' × (1 ≤ l.next) × (l.next ≤ 2 ^ 62)
    × Came l.key l.from l.next (sink_told g.K.Sink.taken g.K.Sink.counts g.K.Sink.name l.fn.sink) (sink_told g.K.Sink.taken g.K.Sink.counts g.K.Sink.name l.sink)
    × Waits (told g.S.Source.given g.S.Source.left g.S.Source.counts g.S.Source.ended g.S.Source.name l.fn.source)
    (told g.S.Source.given g.S.Source.left g.S.Source.counts g.S.Source.ended g.S.Source.name l.source)
