use Rattle.std.proofs.Common.{◌≡◌, sym, ◌∙◌, subst}
use Rattle.zx_base.proofs.MapLaws.{remove-absent}
use Rattle.zk_model.specs.Znodes.{Tree}
use Rattle.zk_machine.specs.Groups.{HasFamilies, HasOwners}
use Rattle.zk_machine.proofs.tree.Tree.without.Goals as goal

pub invariant_of-tree : goal.invariant_of-tree
invariant_of-tree c =
    let same : c.self.inside.nodes ≡ c.take.new.self = sym (c.take.ensures.map ∙ remove-absent c.self.inside.nodes c.bytes.result.now (sym c.take.ensures.value ∙ c.in-None.is)) in
    (subst (λ (t : Tree). HasFamilies t c.self.inside.families) same c.self.invariant.0, subst (λ (t : Tree). HasOwners t c.self.inside.owners) same c.self.invariant.1)
