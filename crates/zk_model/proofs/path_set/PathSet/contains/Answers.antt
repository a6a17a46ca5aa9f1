use Rattle.std.proofs.Common.{◌∙◌, ℕ, Vec, Global}
use Rattle.zk_model.proofs.SetLaws.{contains-keys}
use Rattle.zk_model.proofs.path_set.PathSet.contains.Goals as goal

pub returns : goal.returns
returns c = c.contains.ensures ∙ contains-keys {K = Vec ℕ Global} (λ k. k.items) c.args.path.now c.self.inside.paths.keys c.args.self.now c.self.view_is
