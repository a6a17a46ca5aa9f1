use Rattle.std.proofs.Common.{sym, ◌∙◌, subst}
use Rattle.std.specs.FinMap.{insert}
use Rattle.zx_base.specs.Maps.{Bytes}
use Rattle.zk_machine.specs.Groups.{family, HasFamily}
use Rattle.zk_machine.proofs.GroupLaws.{families-put, families-put_root}
use Rattle.zk_machine.proofs.groups.with_child.Goals as goal

pub returns-in-None : goal.returns-in-None
returns-in-None c = λ t n has. families-put_root t c.args.families c.args.path.now n (sym c.in_ok-parent.ensures.parent ∙ c.in-None.is) has

pub returns-in_ok-join_family-in-Some : goal.returns-in_ok-join_family-in-Some
returns-in_ok-join_family-in-Some c = λ t n has.
    families-put t c.args.families c.join_family.new.families c.args.path.now c.in-Some.parent n (sym c.in_ok-parent.ensures.parent ∙ c.in-Some.is)
    (subst (λ (p : Bytes). HasFamily c.args.families c.join_family.new.families c.in-Some.parent (insert (family c.args.families c.in-Some.parent) p tt)) c.in_ok-copy-in-Some.ensures
    c.in_ok-join_family-in-Some.ensures) has
