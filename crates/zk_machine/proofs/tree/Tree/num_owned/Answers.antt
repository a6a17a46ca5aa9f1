use Rattle.std.proofs.Common.{ap, sym, ◌∙◌, length, Some, None, ℤ, w64, to_z, of_z}
use Rattle.std.proofs.lemmas.Int.{to_z-of_z}
use Rattle.std.specs.Option.{option_copied}
use Rattle.std.specs.FinMap.{len-empty}
use Rattle.zk_model.specs.Znodes.{owned}
use Rattle.zk_machine.specs.Entries.{order}
use Rattle.zk_machine.proofs.GroupLaws.{owner-len}
use Rattle.zk_machine.proofs.tree.Tree.num_owned.Goals as goal

pub returns-in-Some-clause-count : goal.returns-in-Some-clause-count
returns-in-Some-clause-count c =
    c.len.ensures.len ∙ owner-len c.self.inside.nodes c.args.self.now c.self.inside.owners (to_z w64 (of_z w64 c.args.session)) (Some c.in-Some.nodes.now) c.self.invariant.1 c.self.view_is
    (ap (λ o. option_copied o) (sym c.in-Some.is) ∙ c.get.ensures.value)
    ∙ ap (λ (id : ℤ). length (owned c.args.self.now id)) (to_z-of_z w64 c.args.session c.ranges.session)

pub returns-in-None-clause-count : goal.returns-in-None-clause-count
returns-in-None-clause-count c =
    sym (len-empty order (Unit {0})) ∙ owner-len c.self.inside.nodes c.args.self.now c.self.inside.owners (to_z w64 (of_z w64 c.args.session)) None c.self.invariant.1 c.self.view_is
    (ap (λ o. option_copied o) (sym c.in-None.is) ∙ c.get.ensures.value)
    ∙ ap (λ (id : ℤ). length (owned c.args.self.now id)) (to_z-of_z w64 c.args.session c.ranges.session)
