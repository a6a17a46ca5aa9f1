use Rattle.std.proofs.Common.{◌≡◌, drop}
use Rattle.ev_store.specs.Folds.{key_after_changes}
use Rattle.ev_store.proofs.key.after_changes.Given as goal

abbrev pub invariant-loop-change : goal.invariant-loop-change
invariant-loop-change l = key_after_changes l.revision l.key l.found (drop l.change-index l.changes) ≡ key_after_changes l.revision l.key l.fn.before l.changes
