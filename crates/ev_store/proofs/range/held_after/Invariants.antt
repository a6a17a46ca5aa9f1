use Rattle.std.proofs.Common.{◌≡◌, ◌+◌, drop}
use Rattle.std.specs.BTreeMap as tree
use Rattle.std.specs.Ordering.{nat_cmp}
use Rattle.std.specs.Cmp.Lexicographic.{slice_cmp}
use Rattle.zx_base.specs.Maps.{Bytes}
use Rattle.ev_store.specs.Folds.{within_revisions}
use Rattle.ev_store.proofs.range.held_after.Given as goal

abbrev pub invariant-loop-index : goal.invariant-loop-index
invariant-loop-index l =
    (q : Bytes) →
    within_revisions l.range (l.before + l.index + 1) q (tree.get (slice_cmp nat_cmp) l.held q) (drop l.index l.revisions)
    ≡ within_revisions l.range (l.before + 1) q (tree.get (slice_cmp nat_cmp) l.fn.held q) l.revisions
