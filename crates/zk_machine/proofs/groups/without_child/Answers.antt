use Rattle.std.proofs.Common.{sym, ◌∙◌, subst}
use Rattle.std.specs.FinMap.{remove}
use Rattle.zx_base.specs.Maps.{Bytes}
use Rattle.zk_machine.specs.Groups.{family, HasFamily}
use Rattle.zk_machine.proofs.GroupLaws.{families-gone, families-gone_root}
use Rattle.zk_machine.proofs.groups.without_child.Goals as goal

pub returns-in-None : goal.returns-in-None
returns-in-None c = λ t has. families-gone_root t c.args.families c.args.path.now (sym c.in_ok-parent.ensures.parent ∙ c.in-None.is) has

pub returns-in_ok-leave_family-in-Some : goal.returns-in_ok-leave_family-in-Some
returns-in_ok-leave_family-in-Some c = λ t has.
    families-gone t c.args.families c.leave_family.new.families c.args.path.now c.in-Some.parent (sym c.in_ok-parent.ensures.parent ∙ c.in-Some.is)
    (subst (λ (p : Bytes). HasFamily c.args.families c.leave_family.new.families c.in-Some.parent (remove (family c.args.families c.in-Some.parent) p)) c.bytes.ensures
    c.in_ok-leave_family-in-Some.ensures) has
