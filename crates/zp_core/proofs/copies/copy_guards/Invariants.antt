-- The copies so far, with those to come, are all.
use Rattle.std.proofs.Common.{◌≡◌, ◌++◌, drop}
use Rattle.zp_core.proofs.copies.copy_guards.Given as goal

abbrev pub invariant-loop-guard : goal.invariant-loop-guard
invariant-loop-guard l = l.copies ++ drop l.guard-index l.guards ≡ l.guards
