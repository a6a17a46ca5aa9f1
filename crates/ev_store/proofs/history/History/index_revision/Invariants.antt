use Rattle.std.proofs.Common.{◌≡◌}
use Rattle.ev_store.proofs.history.History.index_revision.Given as goal

abbrev pub invariant-loop : goal.invariant-loop
invariant-loop l = l.self ≡ l.fn.self
