use Rattle.std.proofs.Common.{ap, sym, ◌∙◌, Some, None}
use Rattle.std.specs.Option.{option_copied}
use Rattle.std.specs.FinMap.{len-empty}
use Rattle.zk_machine.specs.Entries.{order}
use Rattle.zk_machine.proofs.GroupLaws.{family-len}
use Rattle.zk_machine.proofs.tree.Tree.num_children.Goals as goal

pub returns-in-Some-clause-count : goal.returns-in-Some-clause-count
returns-in-Some-clause-count c =
    c.len.ensures.len ∙ family-len c.self.inside.nodes c.args.self.now c.self.inside.families c.args.path.now (Some c.in-Some.children.now) c.self.invariant.0 c.self.view_is
    (ap (λ o. option_copied o) (sym c.in-Some.is) ∙ c.get.ensures)

pub returns-in-None-clause-count : goal.returns-in-None-clause-count
returns-in-None-clause-count c =
    sym (len-empty order (Unit {0})) ∙ family-len c.self.inside.nodes c.args.self.now c.self.inside.families c.args.path.now None c.self.invariant.0 c.self.view_is
    (ap (λ o. option_copied o) (sym c.in-None.is) ∙ c.get.ensures)
