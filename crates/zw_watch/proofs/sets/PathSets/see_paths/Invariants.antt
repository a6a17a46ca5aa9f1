-- What was seen so far, and then what is seen of the paths that are left, is what is seen of all; and it can be undone.
use Rattle.std.proofs.Common.{◌≡◌, drop}
use Rattle.zk_model.specs.Watches.{Watches}
use Rattle.zw_watch.specs.Rounds.{told_of, CanUndo}
use Rattle.zw_watch.specs.SeenPaths.{see_paths}
use Rattle.zw_watch.proofs.sets.PathSets.see_paths.Given as goal

abbrev pub invariant-loop-path : goal.invariant-loop-path
invariant-loop-path l = record {
  told : see_paths l.relative (told_of l.self l.round) (drop l.path-index l.seen) ≡ see_paths l.relative (told_of l.fn.self l.fn.round) l.seen;
  undo : (before : Watches) → CanUndo l.fn.self l.fn.round before → CanUndo l.self l.round before;
}
