use Rattle.std.proofs.Common.{◌≡◌, drop}
use Rattle.std.specs.BTreeMap as tree
use Rattle.std.specs.Ordering.{nat_cmp}
use Rattle.std.specs.Cmp.Lexicographic.{slice_cmp}
use Rattle.zx_base.specs.Maps.{Bytes}
use Rattle.ev_store.specs.Folds.{within_changes}
use Rattle.ev_store.proofs.range.hold_changes.Given as goal

abbrev pub invariant-loop-change : goal.invariant-loop-change
invariant-loop-change l =
    (q : Bytes) →
    within_changes l.range l.revision q (tree.get (slice_cmp nat_cmp) l.held q) (drop l.change-index l.changes)
    ≡ within_changes l.range l.revision q (tree.get (slice_cmp nat_cmp) l.fn.held q) l.changes
