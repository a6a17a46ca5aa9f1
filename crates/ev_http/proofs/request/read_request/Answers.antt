use Rattle.ev_http.specs.Taking.{told, failed, fresh}
use Rattle.ev_http.proofs.Holds.{request_reads}
use Rattle.ev_http.proofs.request.read_request.Goals as goal

pub returns-clause-reads : goal.returns-clause-reads
returns-clause-reads g c =
    let source = told g.S.Source.given g.S.Source.left g.S.Source.counts g.S.Source.ended g.S.Source.name in
    let taken = c.take_request-request in
    let got = taken.ensures in
    λ all body rest goes known holds short. request_reads taken.result got.0 all body rest goes (failed taken.result) fresh got.1 (source c.args.source.now) (source taken.new.source) got.2 got.3 known holds short
