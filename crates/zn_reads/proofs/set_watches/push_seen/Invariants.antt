use Rattle.std.proofs.Common.{◌≡◌, ◌++◌, take}
use Rattle.std.specs.Prelude.{map}
use Rattle.zn_view.specs.Indexing.{found_under, IsIndex}
use Rattle.zn_view.specs.Seen.{View}
use Rattle.zn_reads.specs.SeenPaths.{seen_path}
use Rattle.zn_reads.proofs.set_watches.push_seen.Given as goal

abbrev pub invariant-loop-i : goal.invariant-loop-i
invariant-loop-i l = (v : View) → IsIndex v (found_under l.index) → l.seen.items ≡ l.initial.seen.items ++ map (seen_path v l.list) (take l.i l.texts)
