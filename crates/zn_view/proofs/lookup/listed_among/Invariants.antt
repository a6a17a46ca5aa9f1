-- The path isn't among those that were passed.
use Rattle.std.proofs.Common.{◌≡◌, drop}
use Rattle.zn_view.specs.Seen.{listed_in}
use Rattle.zn_view.proofs.lookup.listed_among.Given as goal

abbrev pub invariant-loop-seen : goal.invariant-loop-seen
invariant-loop-seen l = listed_in l.path l.lists ≡ listed_in l.path (drop l.seen-index l.lists)
