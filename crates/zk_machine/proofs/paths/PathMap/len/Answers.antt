use Rattle.std.proofs.Common.{◌∙◌, ℕ, Vec, Global}
use Rattle.zk_machine.proofs.StoredEntries.{len-in}
use Rattle.zk_machine.proofs.paths.PathMap.len.Goals as goal

pub returns-clause-len : goal.returns-clause-len
returns-clause-len g c = c.len.ensures.len ∙ len-in {K = Vec ℕ Global} (λ k. k.items) c.self.inside.entries.entries c.args.self.now c.self.invariant c.self.view_is
