-- What was found under a key so far, and what the other keys show of it.
use Rattle.std.proofs.Common.{◌≡◌, drop}
use Rattle.std.specs.Prelude.{None}
use Rattle.zx_base.specs.Maps.{Bytes}
use Rattle.zn_view.specs.Indexing.{seen_from, found_under}
use Rattle.zn_view.proofs.index.index_of.Given as goal

abbrev pub invariant-loop-seen : goal.invariant-loop-seen
invariant-loop-seen l = (q : Bytes) → seen_from q (found_under l.index q) (drop l.seen-index l.keys) ≡ seen_from q None l.keys
