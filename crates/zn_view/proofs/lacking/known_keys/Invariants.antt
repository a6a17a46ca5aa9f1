-- Whether a key is known so far, or is one of the others.
use Rattle.std.proofs.Common.{◌≡◌, false, drop}
use Rattle.std.specs.BTreeSet as set
use Rattle.std.specs.Ordering.{nat_cmp}
use Rattle.std.specs.Cmp.Lexicographic.{slice_cmp}
use Rattle.zx_base.specs.Maps.{Bytes}
use Rattle.zn_view.specs.Lacking.{known_from}
use Rattle.zn_view.proofs.lacking.known_keys.Given as goal

abbrev pub invariant-loop-seen : goal.invariant-loop-seen
invariant-loop-seen l = (q : Bytes) → known_from q (set.contains (slice_cmp nat_cmp) l.known q) (drop l.seen-index l.keys) ≡ known_from q false l.keys
