use Rattle.std.proofs.Common.{◌≡◌, ap, sym, ◌∙◌, subst, List, Some, None, IfOk, w64, to_z, of_z}
use Rattle.std.proofs.lemmas.Int.{to_z-of_z}
use Rattle.std.specs.Option.{option_copied}
use Rattle.zx_base.specs.Maps.{Bytes}
use Rattle.zk_model.specs.Znodes.{owned}
use Rattle.zk_machine.proofs.GroupLaws.{owner-owned, keys-empty}
use Rattle.zk_machine.proofs.tree.Tree.owned.Goals as goal

pub returns-in-Some : goal.returns-in-Some
returns-in-Some c =
    subst (λ (ps : List Bytes). IfOk c.paths.result (λ v. v.items ≡ ps))
    (owner-owned c.self.inside.nodes c.args.self.now c.self.inside.owners (to_z w64 (of_z w64 c.args.session)) (Some c.in-Some.nodes.now) c.self.invariant.1 c.self.view_is
    (ap (λ o. option_copied o) (sym c.in-Some.is) ∙ c.get.ensures.value) ∙ ap (owned c.args.self.now) (to_z-of_z w64 c.args.session c.ranges.session)) c.paths.ensures

pub returns-in-None : goal.returns-in-None
returns-in-None c =
    c.new.ensures.items ∙ sym (keys-empty (Unit {0}))
    ∙ owner-owned c.self.inside.nodes c.args.self.now c.self.inside.owners (to_z w64 (of_z w64 c.args.session)) None c.self.invariant.1 c.self.view_is
    (ap (λ o. option_copied o) (sym c.in-None.is) ∙ c.get.ensures.value) ∙ ap (owned c.args.self.now) (to_z-of_z w64 c.args.session c.ranges.session)
