-- The copies so far, with the keys to come, are all.
use Rattle.std.proofs.Common.{◌≡◌, ◌++◌, drop}
use Rattle.zn_view.proofs.keep.copies.Given as goal

abbrev pub invariant-loop-seen : goal.invariant-loop-seen
invariant-loop-seen l = l.copies.items ++ drop l.seen-index l.keys ≡ l.keys
