use Rattle.std.proofs.Common.{◌≡◌, ◌≤◌, ◌+◌, ◌++◌, length, take, drop, None}
use Rattle.ev_store.specs.Folds.{key_after_revisions, puts_after_revisions}
use Rattle.ev_store.proofs.events.push_puts_of_all.Given as goal

abbrev pub invariant-loop-index : goal.invariant-loop-index
invariant-loop-index l = record {
  few : length l.puts ≤ l.most;
  puts : take l.most (l.puts ++ puts_after_revisions (l.index + 1) (λ q. key_after_revisions 1 q None (take l.index l.history)) (drop l.index l.history)) ≡ take l.most (l.fn.puts ++ puts_after_revisions (l.before + 1) (λ q. key_after_revisions 1 q None (take l.before l.history)) (drop l.before l.history));
}
