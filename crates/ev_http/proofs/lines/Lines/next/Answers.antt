use Rattle.ev_http.specs.Taking.{told, failed}
use Rattle.ev_http.proofs.NextLines.{next_reads}
use Rattle.ev_http.proofs.lines.Lines.next.Goals as goal

pub returns-clause-reads : goal.returns-clause-reads
returns-clause-reads g c =
    let source = told g.S.Source.given g.S.Source.left g.S.Source.counts g.S.Source.ended g.S.Source.name in
    let old = c.args.self.now in
    let taken = c.take_next-line in
    let new = taken.new.self in
    let got = taken.ensures.line in
    λ before given all body rest at known holds. next_reads taken.result new.state new.line.items new.kept.items before given all body rest got.0 new.scanned (failed taken.result) (record { turns = 0; taken = old.tally.taken }) new.tally (source old.source) (source new.source) got.1 (got.2 before given at) known holds
