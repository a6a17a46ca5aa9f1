-- What a check leaves, by its test.
use Rattle.std.proofs.Common.{◌≡◌, ◌∙◌, ℤ, Bool, true, false, List, ap, sym, subst, w32}
use Rattle.std.specs.Prelude.{None, Option, Some, if◌then◌else◌}
use Rattle.std.proofs.lemmas.Int.{to_z-of_z}
use Rattle.zn_view.specs.declared.leaving.NodeNow.{NodeNow}
use Rattle.zn_view.specs.declared.leaving.TreeChange.{TreeChange}
use Rattle.zn_view.specs.Leaving.{is_checked, CheckLeaves, IsNodeNow}
use Rattle.zn_multi.specs.Reading.{IfLeft, Left}
use Rattle.zn_multi.proofs.leaving.check_leaves.Goals as goal

pub returns-then-is_checked : goal.returns-then-is_checked
returns-then-is_checked c =
    let m : List TreeChange = c.in-Some.changes in
    let n : Option (Option NodeNow) = c.in_ok-node.node in
    let now : IsNodeNow c.args.view.now m c.args.path.now n = subst (λ (l : List TreeChange). IsNodeNow c.args.view.now l c.args.path.now n) c.as_slice.ensures c.in_ok-node.ensures in
    let version = to_z-of_z w32 _ c.ranges.version in
    let test : is_checked c.args.version n ≡ true = sym (c.is_checked.ensures ∙ ap (λ (x : ℤ). is_checked x n) version) ∙ c.if-is_checked.true in
    subst (λ (l : Left). IfLeft l (λ changes next. CheckLeaves c.args.view.now changes c.args.path.now c.args.version next) (Some m)) (sym c.in-Some.is)
    (n, now, sym (ap (λ (b : Bool). if b then Some m else None) test))

pub returns : goal.returns
returns c =
    let m : List TreeChange = c.in-Some.changes in
    let n : Option (Option NodeNow) = c.in_ok-node.node in
    let now : IsNodeNow c.args.view.now m c.args.path.now n = subst (λ (l : List TreeChange). IsNodeNow c.args.view.now l c.args.path.now n) c.as_slice.ensures c.in_ok-node.ensures in
    let version = to_z-of_z w32 _ c.ranges.version in
    let test : is_checked c.args.version n ≡ false = sym (c.is_checked.ensures ∙ ap (λ (x : ℤ). is_checked x n) version) ∙ c.if-is_checked.false in
    subst (λ (l : Left). IfLeft l (λ changes next. CheckLeaves c.args.view.now changes c.args.path.now c.args.version next) None) (sym c.in-Some.is)
    (n, now, sym (ap (λ (b : Bool). if b then Some m else None) test))
