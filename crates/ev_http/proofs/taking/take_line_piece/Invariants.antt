use Rattle.std.proofs.Common.{◌-◌, [], false}
use Rattle.ev_http.specs.Taking.{Took, told}
use Rattle.ev_http.proofs.taking.take_line_piece.Given as goal

abbrev pub invariant-turns : goal.invariant-turns
invariant-turns g l =
    Took [] false l.fn.tally l.tally (told g.S.Source.given g.S.Source.left g.S.Source.counts g.S.Source.ended g.S.Source.name l.fn.source)
    (told g.S.Source.given g.S.Source.left g.S.Source.counts g.S.Source.ended g.S.Source.name l.source)

abbrev pub decreases-turns : goal.decreases-turns
decreases-turns g l = 6000 - l.tally.turns
