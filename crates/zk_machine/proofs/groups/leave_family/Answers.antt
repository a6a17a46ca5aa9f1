use Rattle.std.proofs.Common.{◌≡◌, ap, sym, ◌∙◌, Option}
use Rattle.std.specs.FinMap.{get, remove, empty_of_len}
use Rattle.zk_machine.specs.Groups.{Group, family, group_of}
use Rattle.zk_machine.proofs.EditLaws.{on_ok}
use Rattle.zk_machine.proofs.GroupLaws.{family-gone, family-put, remove-nothing}
use Rattle.zk_machine.proofs.groups.leave_family.Goals as goal

pub returns-in_default : goal.returns-in_default
returns-in_default c =
    family-gone c.args.families.now c.take.new.self c.args.parent (remove (family c.args.families.now c.args.parent) c.args.path.now) (c.take.ensures.map ∙ ap (remove c.args.families.now) c.bytes.ensures)
    (remove-nothing c.args.path.now (get c.args.families.now c.args.parent) (sym (c.take.ensures.value ∙ ap (get c.args.families.now) c.bytes.ensures) ∙ c.in_default.is))

pub returns-then-len-eq0 : goal.returns-then-len-eq0
returns-then-len-eq0 c =
    let left : remove (family c.args.families.now c.args.parent) c.args.path.now ≡ c.take-2.new.self =
    ap (λ (o : Option Group). remove (group_of o) c.args.path.now) (sym (c.take.ensures.value ∙ ap (get c.args.families.now) c.bytes.ensures) ∙ c.in-Some.is) ∙ sym c.take-2.ensures.map in
    family-gone c.args.families.now c.take.new.self c.args.parent (remove (family c.args.families.now c.args.parent) c.args.path.now) (c.take.ensures.map ∙ ap (remove c.args.families.now) c.bytes.ensures)
    (left ∙ empty_of_len c.take-2.new.self (sym c.len.ensures.len ∙ c.if-len-eq0.true))

pub returns : goal.returns
returns c =
    let left : remove (family c.args.families.now c.args.parent) c.args.path.now ≡ c.take-2.new.self =
    ap (λ (o : Option Group). remove (group_of o) c.args.path.now) (sym (c.take.ensures.value ∙ ap (get c.args.families.now) c.bytes.ensures) ∙ c.in-Some.is) ∙ sym c.take-2.ensures.map in
    on_ok c.put.result
    (λ puts. family-put c.args.families.now c.take.new.self c.put.new.self c.args.parent (remove (family c.args.families.now c.args.parent) c.args.path.now) c.take-2.new.self
    (c.take.ensures.map ∙ ap (remove c.args.families.now) c.bytes.ensures) puts (sym left)) c.put.ensures
