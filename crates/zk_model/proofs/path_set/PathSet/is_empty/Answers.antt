use Rattle.std.proofs.Common.{◌∙◌, ap, ℕ, Vec, Global}
use Rattle.std.specs.Prelude.{◌==◌}
use Rattle.zk_model.proofs.SetLaws.{is_empty-keys}
use Rattle.zk_model.proofs.path_set.PathSet.is_empty.Goals as goal

pub returns : goal.returns
returns c = ap (λ n. n == 0) c.len.ensures.len ∙ is_empty-keys {K = Vec ℕ Global} (λ k. k.items) c.self.inside.paths.keys c.args.self.now c.self.view_is
