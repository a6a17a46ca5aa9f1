use Rattle.std.proofs.Common.{◌≡◌, List, ℕ, ◌++◌, length, false}
use Rattle.ev_http.specs.declared.lines.State.TheVariants as state
use Rattle.ev_http.specs.Body.{work}
use Rattle.ev_http.specs.Taking.{Took, told}
use Rattle.ev_http.specs.Stream.{IsAt}
use Rattle.ev_http.proofs.lines.Lines.line_from.Given as goal

abbrev pub invariant-parts : goal.invariant-parts
invariant-parts g l =
    (added : List ℕ)
    × Took added false l.fn.self.tally l.self.tally (told g.S.Source.given g.S.Source.left g.S.Source.counts g.S.Source.ended g.S.Source.name l.fn.self.source)
    (told g.S.Source.given g.S.Source.left g.S.Source.counts g.S.Source.ended g.S.Source.name l.self.source)
    × (l.self.state ≡ state.Body l.part)
    × ((taken given : List ℕ) → IsAt l.fn.self (told g.S.Source.given g.S.Source.left g.S.Source.counts g.S.Source.ended g.S.Source.name l.fn.self.source) taken given
    → IsAt l.self (told g.S.Source.given g.S.Source.left g.S.Source.counts g.S.Source.ended g.S.Source.name l.self.source) (taken ++ added) given)

abbrev pub decreases-parts : goal.decreases-parts
decreases-parts g l = work l.part (length l.self.kept.items)
