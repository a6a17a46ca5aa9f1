use Rattle.std.proofs.Common.{sym, ◌∙◌, subst, ℤ, w64, to_z, of_z}
use Rattle.std.proofs.lemmas.Int.{to_z-of_z}
use Rattle.std.specs.FinMap.{insert}
use Rattle.zx_base.specs.Maps.{Bytes}
use Rattle.zk_machine.specs.Groups.{owned_group, HasOwner}
use Rattle.zk_machine.proofs.GroupLaws.{owners-put}
use Rattle.zk_machine.proofs.groups.with_owned.Goals as goal

pub returns : goal.returns
returns c = λ t n none owner has.
    owners-put t c.args.owners c.join_owner.new.owners c.args.path.now n none
    (subst (λ (i : ℤ). HasOwner c.args.owners c.join_owner.new.owners i (insert (owned_group c.args.owners i) c.args.path.now tt)) (to_z-of_z w64 c.args.id c.ranges.id ∙ sym owner)
    (subst (λ (p : Bytes). HasOwner c.args.owners c.join_owner.new.owners (to_z w64 (of_z w64 c.args.id)) (insert (owned_group c.args.owners (to_z w64 (of_z w64 c.args.id))) p tt)) c.in_ok-copy.ensures
    c.in_ok-join_owner.ensures)) has
