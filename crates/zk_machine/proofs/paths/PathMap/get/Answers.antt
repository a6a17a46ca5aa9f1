use Rattle.std.proofs.Common.{sym, ◌∙◌, ap, ℕ, Vec, Global}
use Rattle.std.specs.Option.{option_copied}
use Rattle.zk_machine.proofs.StoredEntries.{found-in}
use Rattle.zk_machine.proofs.paths.PathMap.get.Goals as goal

pub returns-in-Some : goal.returns-in-Some
returns-in-Some g c =
    found-in {K = Vec ℕ Global} (λ k. k.items) c.args.path.now c.self.inside.entries.entries c.args.self.now _ (c.self.invariant.0, c.self.invariant.1) c.self.view_is
    (ap (λ o. option_copied o) (sym c.in-Some.is) ∙ c.get.ensures.value)

pub returns-in-None : goal.returns-in-None
returns-in-None g c =
    found-in {K = Vec ℕ Global} (λ k. k.items) c.args.path.now c.self.inside.entries.entries c.args.self.now _ (c.self.invariant.0, c.self.invariant.1) c.self.view_is
    (ap (λ o. option_copied o) (sym c.in-None.is) ∙ c.get.ensures.value)
