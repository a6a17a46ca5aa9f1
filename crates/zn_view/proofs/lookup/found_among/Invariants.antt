-- The key isn't among those that were passed.
use Rattle.std.proofs.Common.{◌≡◌, drop}
use Rattle.zn_view.specs.Seen.{seen_in}
use Rattle.zn_view.proofs.lookup.found_among.Given as goal

abbrev pub invariant-loop-seen : goal.invariant-loop-seen
invariant-loop-seen l = seen_in l.key l.keys ≡ seen_in l.key (drop l.seen-index l.keys)
