-- The parents of valid paths are valid.
use Rattle.std.proofs.Common.{List, sym, subst, ◌∙◌}
use Rattle.std.specs.Prelude.{All, IsTrue}
use Rattle.zk_model.specs.Paths.{is_path}
use Rattle.zx_base.specs.Maps.{Bytes}
use Rattle.zs_close.proofs.ParentPaths.{parents-valid}
use Rattle.zs_close.proofs.wants.end_keys.Goals as goal

pub push_counts-requires : goal.push_counts-requires
push_counts-requires c = subst (λ (qs : List Bytes). All (λ q. IsTrue (is_path q)) qs) (sym (c.as_slice.ensures ∙ c.in_ok-parents.ensures)) (parents-valid c.args.paths.now c.requires.valid)
