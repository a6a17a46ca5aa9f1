-- The guards so far, with those to come, are all.
use Rattle.std.proofs.Common.{◌≡◌, ◌++◌, drop}
use Rattle.zn_view.specs.Asks.{guards_of, picked}
use Rattle.zn_view.proofs.view.View.guards_on.Given as goal

abbrev pub invariant-loop-key : goal.invariant-loop-key
invariant-loop-key l = l.guards ++ guards_of (picked l.self (drop l.key-index l.keys)) ≡ guards_of (picked l.self l.keys)
