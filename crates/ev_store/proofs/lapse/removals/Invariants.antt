use Rattle.std.proofs.Common.{◌≡◌, ◌++◌}
use Rattle.std.specs.Map.{keys_of}
use Rattle.ev_types.specs.Lapses.{removals}
use Rattle.ev_store.specs.Changes.{leased_among}
use Rattle.ev_store.proofs.lapse.removals.Given as goal

abbrev pub invariant-loop-name : goal.invariant-loop-name
invariant-loop-name l = l.removals ++ removals (keys_of (leased_among l.id l.name-iterator)) ≡ removals (keys_of (leased_among l.id l.held.entries))
