use Rattle.std.proofs.Common.{◌∙◌, ℕ, Vec, Global}
use Rattle.zk_machine.proofs.StoredEntries.{inserted-in_order, put-in}
use Rattle.zk_machine.proofs.paths.PathMap.put.Goals as goal

pub invariant_of-self-2 : goal.invariant_of-self-2
invariant_of-self-2 g c =
    inserted-in_order {K = Vec ℕ Global} (λ k. k.items) c.self.inside.entries.entries c.insert.new.self.entries c.in_ok-key.key (c.args.path, c.args.value) c.self.invariant
    (c.in_ok-key.ensures.items ∙ c.bytes.ensures) c.in_ok-insert.ensures.entries

pub returns : goal.returns
returns g c =
    put-in {K = Vec ℕ Global} (λ k. k.items) c.self.inside.entries.entries c.insert.new.self.entries c.in_ok-key.key (c.args.path, c.args.value) c.args.self.now c.self.invariant c.self.view_is
    (c.in_ok-key.ensures.items ∙ c.bytes.ensures) c.in_ok-insert.ensures.entries
