-- The parents of valid paths are valid.
use Rattle.std.proofs.Common.{to_z, of_z, w64, List, sym, subst, ap, ◌∙◌}
use Rattle.std.specs.Prelude.{All, IsTrue}
use Rattle.zk_model.specs.Paths.{is_path}
use Rattle.zx_base.specs.Maps.{Bytes}
use Rattle.zs_close.specs.Ending.{parents}
use Rattle.zs_close.proofs.ParentPaths.{parents-valid}
use Rattle.zs_close.proofs.WritesAfter.{end-after}
use Rattle.zs_close.proofs.changes.end_acts.Goals as goal

pub push_parents-requires-clause-valid : goal.push_parents-requires-clause-valid
push_parents-requires-clause-valid c =
    subst (λ (qs : List Bytes). All (λ q. IsTrue (is_path q)) qs) (sym (c.as_slice.ensures ∙ c.in_ok-parents.ensures ∙ ap parents c.as_slice-paths.ensures)) (parents-valid c.args.nodes.now.paths c.requires.valid)

pub returns-clause-written : goal.returns-clause-written
returns-clause-written c = end-after c.args.alive (to_z w64 (of_z w64 c.args.session)) c.args.nodes.now.layout c.as_slice-paths.result.now _ _ _ c.in_ok-acts.ensures c.in_ok-push_nodes.ensures c.in_ok-push_parents.ensures.after
