use Rattle.std.proofs.Common.{◌≡◌, ◌≤◌, ◌-◌, All, length, take}
use Rattle.ev_shared.specs.History.{GoesOn}
use Rattle.ev_shared.specs.Terms.{LapsesBy, swept}
use Rattle.ev_shared.proofs.kept.Kept.lapse_each.Given as goal

abbrev pub invariant-terms : goal.invariant-terms
invariant-terms l = record {
  same : l.self.terms ≡ l.initial.self.terms;
  within : l.index ≤ length l.self.terms.items;
  swept : l.self.store ≡ swept l.now (take l.index l.initial.self.terms.items) l.initial.self.store;
  began : l.self.first ≡ l.initial.self.first;
  history : GoesOn l.initial.self.events.items l.self.events.items;
  lapses : All (LapsesBy l.now l.self.store) (take l.index l.initial.self.terms.items);
}

abbrev pub decreases-terms : goal.decreases-terms
decreases-terms l = length l.self.terms.items - l.index
