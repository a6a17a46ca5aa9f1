use Rattle.std.proofs.Common.{◌≡◌, ap, sym, ◌∙◌, subst, ℤ, Option, w64, to_z, of_z}
use Rattle.std.proofs.lemmas.Int.{to_z-of_z}
use Rattle.std.specs.BTreeMap as btree
use Rattle.std.specs.FinMap.{remove, empty_of_len}
use Rattle.std.specs.Ordering.{int_cmp}
use Rattle.zk_machine.specs.Groups.{Group, group_of, owned_group, HasOwner}
use Rattle.zk_machine.proofs.GroupLaws.{owner-gone, remove-nothing}
use Rattle.zk_machine.proofs.groups.leave_owner.Goals as goal

pub returns-in_default : goal.returns-in_default
returns-in_default c =
    let id : ℤ = to_z w64 (of_z w64 c.args.id) in
    subst (λ (i : ℤ). HasOwner c.args.owners.now c.remove.new.self i (remove (owned_group c.args.owners.now i) c.args.path.now)) (to_z-of_z w64 c.args.id c.ranges.id)
    (owner-gone c.args.owners.now c.remove.new.self id _ c.remove.ensures.updates.0 (remove-nothing c.args.path.now (btree.get int_cmp c.args.owners.now id) (sym c.remove.ensures.value ∙ c.in_default.is)))

pub returns-then-len-eq0 : goal.returns-then-len-eq0
returns-then-len-eq0 c =
    let id : ℤ = to_z w64 (of_z w64 c.args.id) in
    let left : remove (owned_group c.args.owners.now id) c.args.path.now ≡ c.take.new.self =
    ap (λ (o : Option Group). remove (group_of o) c.args.path.now) (sym c.remove.ensures.value ∙ c.in-Some.is) ∙ sym c.take.ensures.map in
    subst (λ (i : ℤ). HasOwner c.args.owners.now c.remove.new.self i (remove (owned_group c.args.owners.now i) c.args.path.now)) (to_z-of_z w64 c.args.id c.ranges.id)
    (owner-gone c.args.owners.now c.remove.new.self id _ c.remove.ensures.updates.0 (left ∙ empty_of_len c.take.new.self (sym c.len.ensures.len ∙ c.if-len-eq0.true)))
