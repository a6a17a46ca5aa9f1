use Rattle.std.proofs.Common.{◌∙◌, ap, ℕ, Vec, Global, List}
use Rattle.std.proofs.lemmas.List.Elements.{same_from_all_zip}
use Rattle.zx_base.specs.Maps.{Bytes}
use Rattle.zk_model.specs.PathSets.{set_of}
use Rattle.zk_model.proofs.SetLaws.{cloned-keys}
use Rattle.zk_model.proofs.path_set.PathSet.copy.Goals as goal

pub returns : goal.returns
returns c =
    ap (λ (ps : List Bytes). set_of ps)
    (cloned-keys {K = Vec ℕ Global} (λ k. k.items) _ (λ j k both. same_from_all_zip _ j.items k.items both.0 (λ x y e. e)) c.self.inside.paths.keys c.in_ok-clone.field-0.keys c.in_ok-clone.ensures.cases)
    ∙ c.self.view_is
