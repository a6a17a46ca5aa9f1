use Rattle.std.proofs.Common.{◌≡◌, ap, sym, ◌∙◌, subst, map, List, Some, None, IfOk}
use Rattle.std.specs.Option.{option_copied}
use Rattle.zx_base.specs.Maps.{Bytes}
use Rattle.zk_model.specs.Paths.{last_name}
use Rattle.zk_machine.proofs.GroupLaws.{family-children, keys-empty}
use Rattle.zk_machine.proofs.tree.Tree.child_names.Goals as goal

pub returns-in-Some : goal.returns-in-Some
returns-in-Some c =
    subst (λ (ps : List Bytes). IfOk c.names.result (λ v. v ≡ map last_name ps))
    (family-children c.self.inside.nodes c.args.self.now c.self.inside.families c.args.path.now (Some c.in-Some.children.now) c.self.invariant.0 c.self.view_is
    (ap (λ o. option_copied o) (sym c.in-Some.is) ∙ c.get.ensures)) c.names.ensures

pub returns-in-None : goal.returns-in-None
returns-in-None c =
    c.new.ensures ∙ ap (map last_name) (sym (keys-empty (Unit {0}))
    ∙ family-children c.self.inside.nodes c.args.self.now c.self.inside.families c.args.path.now None c.self.invariant.0 c.self.view_is
    (ap (λ o. option_copied o) (sym c.in-None.is) ∙ c.get.ensures))
