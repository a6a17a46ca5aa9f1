use Rattle.std.proofs.Common.{◌-◌, List, ℕ, false, vec_len}
use Rattle.ev_http.specs.Taking.{Took, told, Grows}
use Rattle.ev_http.proofs.taking.take_line.Given as goal

abbrev pub invariant-pieces : goal.invariant-pieces
invariant-pieces g l =
    (added : List ℕ)
    × Took added false l.fn.tally l.tally (told g.S.Source.given g.S.Source.left g.S.Source.counts g.S.Source.ended g.S.Source.name l.fn.source)
    (told g.S.Source.given g.S.Source.left g.S.Source.counts g.S.Source.ended g.S.Source.name l.source)
    × Grows l.fn.line.items added l.line.items l.limit

abbrev pub decreases-pieces : goal.decreases-pieces
decreases-pieces g l = l.limit - vec_len l.line
