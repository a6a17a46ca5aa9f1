use Rattle.std.proofs.Common.{◌<◌, ◌^◌, List, ℕ, length, false}
use Rattle.ev_http.specs.Taking.{Took, told}
use Rattle.ev_http.specs.Body.{Came, EndsWhole, work}
use Rattle.ev_http.proofs.body.read_body.Given as goal

abbrev pub invariant-parts : goal.invariant-parts
invariant-parts g l =
    (bytes : List ℕ)
    × Took bytes false l.fn.tally l.tally (told g.S.Source.given g.S.Source.left g.S.Source.counts g.S.Source.ended g.S.Source.name l.fn.source)
    (told g.S.Source.given g.S.Source.left g.S.Source.counts g.S.Source.ended g.S.Source.name l.source)
    × Came l.fn.tally.taken l.fn.framing l.part l.line.items bytes l.body.items
    × EndsWhole l.fn.framing l.part (told g.S.Source.given g.S.Source.left g.S.Source.counts g.S.Source.ended g.S.Source.name l.source)
    × (l.fn.tally.taken < 2 ^ 64)

abbrev pub decreases-parts : goal.decreases-parts
decreases-parts g l = work l.part (length l.body.items)
