-- The guarded keys so far, with those to come, are all.
use Rattle.std.proofs.Common.{◌≡◌, drop, fold, All}
use Rattle.zn_view.specs.Keeping.{guard_seen, guarded_seen}
use Rattle.zn_view.specs.Seen.{IsSeen}
use Rattle.zn_view.proofs.keep.guarded.Given as goal

abbrev pub invariant-loop-guard : goal.invariant-loop-guard
invariant-loop-guard l = (fold (guard_seen l.view) l.keys.items (drop l.guard-index l.guards) ≡ guarded_seen l.view l.guards) × All IsSeen l.keys.items
