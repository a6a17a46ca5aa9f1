use Rattle.ev_http.specs.Taking.{told}
use Rattle.ev_gateway.specs.Serving.{Serves}
use Rattle.ev_http.specs.Sinks.{sink_told}
use Rattle.ev_gateway.proofs.connection.gateway.Given as goal

abbrev pub invariant-turns : goal.invariant-turns
invariant-turns g l = Serves l.served
    (told g.S.Source.given g.S.Source.left g.S.Source.counts g.S.Source.ended g.S.Source.name l.initial.source) (told g.S.Source.given g.S.Source.left g.S.Source.counts g.S.Source.ended g.S.Source.name l.source)
    (sink_told g.K.Sink.taken g.K.Sink.counts g.K.Sink.name l.initial.sink) (sink_told g.K.Sink.taken g.K.Sink.counts g.K.Sink.name l.sink)
