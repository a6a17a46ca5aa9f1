use Rattle.std.proofs.Common.{◌≡◌, ◌≤◌, ◌+◌, ◌-◌, ◌^◌, length}
use Rattle.ev_shared.specs.History.{GoesOn}
use Rattle.ev_shared.specs.Watching.{NonePut}
use Rattle.ev_shared.proofs.kept.Kept.look.Given as goal

abbrev pub invariant-revisions : goal.invariant-revisions
invariant-revisions l = record {
  same : l.self.store ≡ l.initial.self.store;
  began : l.self.first ≡ l.initial.self.first;
  history : GoesOn l.initial.self.events.items l.self.events.items;
  least : l.from ≤ l.revision;
  most : l.revision ≤ 2 ^ 62;
  none : NonePut l.self.store l.key l.from l.revision;
}

abbrev pub decreases-revisions : goal.decreases-revisions
decreases-revisions l = length l.self.store.revisions + 1 - l.revision
