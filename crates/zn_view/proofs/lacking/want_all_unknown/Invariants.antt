-- What is known, and the wants so far with those for the other keys.
use Rattle.std.proofs.Common.{◌≡◌, [], drop}
use Rattle.std.specs.Prelude.{fold, is_some}
use Rattle.std.specs.BTreeSet as set
use Rattle.std.specs.Ordering.{nat_cmp}
use Rattle.std.specs.Cmp.Lexicographic.{slice_cmp}
use Rattle.zx_base.specs.Maps.{Bytes}
use Rattle.zn_view.specs.Lacking.{with_want}
use Rattle.zn_view.specs.Seen.{View, seen}
use Rattle.zn_view.proofs.Unknown.{Knows}
use Rattle.zn_view.proofs.lacking.want_all_unknown.Given as goal

abbrev pub invariant-loop-key : goal.invariant-loop-key
invariant-loop-key l = (v : View) → ((q : Bytes) → set.contains (slice_cmp nat_cmp) l.fn.known q ≡ is_some (seen v q))
    → Knows v l.wants (λ q. set.contains (slice_cmp nat_cmp) l.known q) × (fold (with_want v) l.wants (drop l.key-index l.keys) ≡ fold (with_want v) [] l.keys)
