use Rattle.std.proofs.Common.{sym, ◌∙◌, subst, ℤ, w64, to_z, of_z}
use Rattle.std.proofs.lemmas.Int.{to_z-of_z}
use Rattle.std.specs.FinMap.{remove}
use Rattle.zx_base.specs.Maps.{Bytes}
use Rattle.zk_machine.specs.Groups.{owned_group, HasOwner}
use Rattle.zk_machine.proofs.GroupLaws.{owners-gone}
use Rattle.zk_machine.proofs.groups.without_owned.Goals as goal

pub returns : goal.returns
returns c = λ t n there owner has.
    owners-gone t c.args.owners c.leave_owner.new.owners c.args.path.now n there
    (subst (λ (i : ℤ). HasOwner c.args.owners c.leave_owner.new.owners i (remove (owned_group c.args.owners i) c.args.path.now)) (to_z-of_z w64 c.args.id c.ranges.id ∙ sym owner)
    (subst (λ (p : Bytes). HasOwner c.args.owners c.leave_owner.new.owners (to_z w64 (of_z w64 c.args.id)) (remove (owned_group c.args.owners (to_z w64 (of_z w64 c.args.id))) p)) c.bytes.ensures
    c.in_ok-leave_owner.ensures)) has
