use Rattle.std.proofs.Common.{◌≡◌, ◌-◌, ◌++◌, List, ℕ, false, true, vec_len}
use Rattle.std.specs.List.{list_all}
use Rattle.ev_http.specs.Taking.{Took, told}
use Rattle.ev_http.specs.Heads.{IsOpenHead, is_blank_byte}
use Rattle.ev_http.proofs.head.take_head.Given as goal

abbrev pub invariant-lines : goal.invariant-lines
invariant-lines g l =
    (added : List ℕ)
    × Took added false l.fn.tally l.tally (told g.S.Source.given g.S.Source.left g.S.Source.counts g.S.Source.ended g.S.Source.name l.fn.source)
    (told g.S.Source.given g.S.Source.left g.S.Source.counts g.S.Source.ended g.S.Source.name l.source)
    × (l.head.items ≡ l.fn.head.items ++ added) × (IsOpenHead l.kind l.fn.head.items → IsOpenHead l.kind l.head.items)
    × (l.blank ≡ true → list_all is_blank_byte l.head.items ≡ true)

abbrev pub decreases-lines : goal.decreases-lines
decreases-lines g l = 16384 - vec_len l.head
