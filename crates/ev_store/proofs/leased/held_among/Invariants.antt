-- What is held so far, and then what comes of the keys that are left, is what comes of all.
use Rattle.std.proofs.Common.{◌≡◌, None, drop}
use Rattle.std.specs.BTreeMap as tree
use Rattle.std.specs.Ordering.{nat_cmp}
use Rattle.std.specs.Cmp.Lexicographic.{slice_cmp}
use Rattle.zx_base.specs.Maps.{Bytes}
use Rattle.ev_store.specs.Leased.{all_held}
use Rattle.ev_store.proofs.leased.held_among.Given as goal

abbrev pub invariant-loop-key : goal.invariant-loop-key
invariant-loop-key l = (q : Bytes) → all_held l.revision l.versions q (tree.get (slice_cmp nat_cmp) l.held q) (drop l.key-index l.keys) ≡ all_held l.revision l.versions q None l.keys
