use Rattle.std.proofs.Common.{ap, ◌∙◌}
use Rattle.std.specs.FinMap.{get, insert, remove}
use Rattle.zk_machine.specs.Groups.{Group, family, group_of}
use Rattle.zk_machine.proofs.EditLaws.{on_ok}
use Rattle.zk_machine.proofs.GroupLaws.{family-put}
use Rattle.zk_machine.proofs.groups.join_family.Goals as goal

pub returns : goal.returns
returns c =
    on_ok c.put-2.result
    (λ puts. family-put c.args.families.now c.take.new.self c.put-2.new.self c.args.parent (insert (family c.args.families.now c.args.parent) c.args.path tt) c.put.new.self
    (c.take.ensures.map ∙ ap (remove c.args.families.now) c.bytes.ensures) puts
    (c.in_ok-put.ensures ∙ ap (λ (g : Group). insert g c.args.path tt) (c.kept_or_new-group.ensures ∙ ap group_of (c.take.ensures.value ∙ ap (get c.args.families.now) c.bytes.ensures)))) c.put-2.ensures
