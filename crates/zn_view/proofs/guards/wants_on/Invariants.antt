-- The wants so far, with those to come, are all.
use Rattle.std.proofs.Common.{◌≡◌, ◌++◌, drop}
use Rattle.zn_view.specs.Asks.{guarded_wants, picked}
use Rattle.zn_view.proofs.guards.wants_on.Given as goal

abbrev pub invariant-loop-key : goal.invariant-loop-key
invariant-loop-key l = l.wants ++ guarded_wants (picked l.view (drop l.key-index l.keys)) ≡ guarded_wants (picked l.view l.keys)
