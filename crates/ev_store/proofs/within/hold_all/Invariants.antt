use Rattle.std.proofs.Common.{◌≡◌, None}
use Rattle.std.specs.BTreeMap as tree
use Rattle.std.specs.List.{All}
use Rattle.std.specs.Ordering.{nat_cmp}
use Rattle.std.specs.Cmp.Lexicographic.{slice_cmp}
use Rattle.zx_base.specs.Maps.{Bytes}
use Rattle.ev_store.specs.declared.versions.Version.{Version}
use Rattle.ev_store.specs.Versions.{all_taken, AreInOrder}
use Rattle.ev_store.proofs.within.hold_all.Given as goal
use Rattle.std.specs.Prelude.{List}

abbrev pub invariant-loop-key : goal.invariant-loop-key
invariant-loop-key l = record {
  ordered : All (λ (e : Bytes × List Version). AreInOrder e.1) l.key-iterator;
  held : (q : Bytes) → all_taken l.revision q (tree.get (slice_cmp nat_cmp) l.held q) l.key-iterator ≡ all_taken l.revision q None l.fn.entries;
}
