use Rattle.ev_http.specs.Taking.{told, failed, fresh}
use Rattle.ev_http.proofs.Holds.{response_reads}
use Rattle.ev_http.proofs.response.read_response.Goals as goal

pub returns-clause-reads : goal.returns-clause-reads
returns-clause-reads g c =
    let source = told g.S.Source.given g.S.Source.left g.S.Source.counts g.S.Source.ended g.S.Source.name in
    let taken = c.take_response-response in
    let got = taken.ensures in
    λ all body rest known holds short. response_reads taken.result got.0 all body rest (failed taken.result) fresh got.1 (source c.args.source.now) (source taken.new.source) got.2 got.3 known holds short
