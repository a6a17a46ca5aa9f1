use Rattle.std.proofs.Common.{◌≡◌, ◌≤◌, ◌++◌, length, take, drop, None}
use Rattle.ev_store.specs.Folds.{key_after_changes, key_after_revisions, puts_after_changes}
use Rattle.ev_store.proofs.events.push_puts.Given as goal

abbrev pub invariant-loop-index : goal.invariant-loop-index
invariant-loop-index l = record {
  few : length l.puts ≤ l.most;
  puts : take l.most (l.puts ++ puts_after_changes l.revision (λ q. key_after_changes l.revision q (key_after_revisions 1 q None (take l.before l.history)) (take l.index l.changes)) (drop l.index l.changes)) ≡ take l.most (l.fn.puts ++ puts_after_changes l.revision (λ q. key_after_revisions 1 q None (take l.before l.history)) l.changes);
}
