use Rattle.std.proofs.Common.{ap, ◌∙◌}
use Rattle.std.specs.FinMap.{get, insert}
use Rattle.std.proofs.lemmas.Result.{IfOk-weaker}
use Rattle.zx_base.proofs.MapLaws.{get-remove_same}
use Rattle.zk_model.specs.Znodes.{Tree}
use Rattle.zk_machine.proofs.EditLaws.{insert-remove}
use Rattle.zk_machine.proofs.tree.Tree.with_other.Goals as goal

pub with-requires : goal.with-requires
with-requires c = ap (λ (t : Tree). get t c.args.path) c.in_ok-rest.ensures.tree ∙ get-remove_same c.args.self c.args.path

pub returns : goal.returns
returns c =
    IfOk-weaker c.with.result _ _ (λ t puts. puts ∙ ap (λ (t : Tree). insert t c.args.path c.args.node) c.in_ok-rest.ensures.tree ∙ insert-remove c.args.self c.args.path c.args.node) c.with.ensures
