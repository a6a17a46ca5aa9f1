use Rattle.std.proofs.Common.{◌≡◌, Some, subst, sym}
use Rattle.zk_model.specs.Znodes.{Tree}
use Rattle.zk_machine.specs.Writes.{owner_at}
use Rattle.zk_machine.proofs.GroupLaws.{groups-put_there}
use Rattle.zk_machine.proofs.tree.Tree.with_changed.Goals as goal

pub invariant_of-result : goal.invariant_of-result
invariant_of-result c =
    groups-put_there c.self.inside.nodes c.put.new.self c.self.inside.families c.self.inside.owners c.args.path c.args.node c.in_ok-put.ensures
    (subst (λ (t : Tree). owner_at t c.args.path ≡ Some c.args.node.owner) (sym c.self.view_is) c.requires) c.self.invariant
