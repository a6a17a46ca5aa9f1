use Rattle.std.proofs.Common.{◌≤◌, ◌^◌}
use Rattle.ev_shared.proofs.shared_store.SharedStore.next_put.Given as goal

abbrev pub invariant-looks : goal.invariant-looks
invariant-looks g l =
    (goal.iterator-looks g).can_next l.iterator' × (goal.iterator-looks g).is_finite l.iterator' × (1 ≤ l.next) × (l.from ≤ l.next) × (l.next ≤ 2 ^ 62)
