use Rattle.std.proofs.Common.{◌≡◌, ◌+◌, drop}
use Rattle.ev_store.specs.Folds.{key_after_revisions}
use Rattle.ev_store.proofs.key.after_revisions.Given as goal

abbrev pub invariant-loop-index : goal.invariant-loop-index
invariant-loop-index l = key_after_revisions (l.before + l.index + 1) l.key l.found (drop l.index l.revisions) ≡ key_after_revisions (l.before + 1) l.key l.fn.found l.revisions
