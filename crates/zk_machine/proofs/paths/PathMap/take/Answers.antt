use Rattle.std.proofs.Common.{sym, ◌∙◌, ℕ, Vec, Global}
use Rattle.zk_machine.proofs.StoredEntries.{found-in, removed-in_order, taken-from}
use Rattle.zk_machine.proofs.paths.PathMap.take.Goals as goal

pub invariant_of-self : goal.invariant_of-self
invariant_of-self g c =
    removed-in_order {K = Vec ℕ Global} (λ k. k.items) c.self.inside.entries.entries c.remove.new.self.entries c.args.path.now c.self.invariant c.remove.ensures.entries

pub returns-in-Some-clause-map : goal.returns-in-Some-clause-map
returns-in-Some-clause-map g c =
    taken-from {K = Vec ℕ Global} (λ k. k.items) c.self.inside.entries.entries c.remove.new.self.entries c.args.path.now c.args.self.now c.self.invariant c.self.view_is c.remove.ensures.entries

pub returns-clause-map : goal.returns-clause-map
returns-clause-map g c =
    taken-from {K = Vec ℕ Global} (λ k. k.items) c.self.inside.entries.entries c.remove.new.self.entries c.args.path.now c.args.self.now c.self.invariant c.self.view_is c.remove.ensures.entries

pub returns-in-Some-clause-value : goal.returns-in-Some-clause-value
returns-in-Some-clause-value g c =
    found-in {K = Vec ℕ Global} (λ k. k.items) c.args.path.now c.self.inside.entries.entries c.args.self.now _ c.self.invariant c.self.view_is (sym c.in-Some.is ∙ c.remove.ensures.value)

pub returns-clause-value : goal.returns-clause-value
returns-clause-value g c =
    found-in {K = Vec ℕ Global} (λ k. k.items) c.args.path.now c.self.inside.entries.entries c.args.self.now _ c.self.invariant c.self.view_is (sym c.in-None.is ∙ c.remove.ensures.value)
