-- What a create2 looks up is what the create does.
use Rattle.std.proofs.Common.{ℤ, w32, subst}
use Rattle.std.proofs.lemmas.Int.{to_z-of_z}
use Rattle.zk_model.specs.declared.request.Request.TheVariants as req
use Rattle.zn_view.specs.Needs.{AreNeeds}
use Rattle.zn_updates.proofs.WithStat.{needs-asked}
use Rattle.zn_updates.proofs.create2.create2_needs.Goals as goal

pub returns : goal.returns
returns c = λ content.
    let flags = to_z-of_z w32 c.args.flags c.ranges.flags in
    needs-asked c.args.path.now content c.args.acl.now c.args.flags c.args.who c.args.view.now _
    (subst (λ (f : ℤ). AreNeeds (req.Create c.args.path.now content c.args.acl.now f) c.args.who c.args.view.now c.in_ok-create_needs.field-0) flags (c.in_ok-create_needs.ensures content))
