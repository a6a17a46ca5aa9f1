use Rattle.std.proofs.Common.{ap, ◌∙◌}
use Rattle.zk_model.specs.Znodes.{Tree, num_children}
use Rattle.zk_machine.specs.Tallies.{tallied_all, was_child, is_child_now}
use Rattle.zk_machine.proofs.DraftLaws.{children-written}
use Rattle.zk_machine.proofs.draft.Draft.num_children.Goals as goal

pub returns : goal.returns
returns c =
    c.children_after.ensures ∙ ap (λ n. tallied_all (was_child c.args.path.now) (is_child_now c.args.path.now) n c.self.inside.writes.now) c.num_children.ensures.count
    ∙ children-written c.self.inside.tree.now c.self.inside.writes.now c.args.path.now c.self.invariant ∙ ap (λ (t : Tree). num_children t c.args.path.now) c.self.view_is
