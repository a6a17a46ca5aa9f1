use Rattle.std.proofs.Common.{◌∙◌, ℕ, Vec, Global}
use Rattle.zk_model.proofs.SetLaws.{contains-keys, removed-keys}
use Rattle.zk_model.proofs.path_set.PathSet.remove.Goals as goal

pub returns-clause-rest : goal.returns-clause-rest
returns-clause-rest c =
    removed-keys {K = Vec ℕ Global} (λ k. k.items) c.args.path.now c.self.inside.paths.keys c.remove.new.self.keys c.args.self.now c.self.view_is c.remove.ensures.updates.1 c.remove.ensures.keys

pub returns-clause-was : goal.returns-clause-was
returns-clause-was c = c.remove.ensures.test ∙ contains-keys {K = Vec ℕ Global} (λ k. k.items) c.args.path.now c.self.inside.paths.keys c.args.self.now c.self.view_is
