use Rattle.std.proofs.Common.{◌≡◌, ◌∙◌, ℤ, Bool, true, sym, ap, subst, w32, w64, rules, arith}
use Rattle.std.specs.Prelude.{Some, None}
use Rattle.std.proofs.lemmas.Grind.{common_steps}
use Rattle.std.proofs.lemmas.Int.{to_z-of_z}
use Rattle.std.proofs.lemmas.Result.{IfOk-weaker}
use mir.Val.{SFits}
use Rattle.zk_model.specs.PathFaults.{is_valid, tested}
use Rattle.zk_model.specs.Paths.{parent}
use Rattle.zk_model.specs.Single.{is_ephemeral, is_sequential}
use Rattle.zn_layout.specs.Records.{IsLongCount}
use Rattle.zn_updates.specs.declared.chosen.Chosen.TheVariants as chosen
use Rattle.zn_updates.specs.Layers.{layered}
use Rattle.zn_updates.specs.Parts.{IsCreatedBelow, IsPartChoice}
use Rattle.zk_model.specs.declared.request.Part.TheVariants as parts
use Rattle.zn_updates.proofs.Forms.{create_path_valid}
use Rattle.zn_updates.proofs.CreateClauses.{form_at}
use Rattle.zn_updates.proofs.PartChoices.{created_part, created_root, refused_part}
use Rattle.zn_updates.proofs.part.created.Goals as goal

pub returns-in-Refused : goal.returns-in-Refused
returns-in-Refused c =
    let fits : SFits w32 c.args.asked.now.flags = search rules in
    let code : SFits w32 c.in-Refused.code = search rules in
    let form = form_at c.args.asked.now.path.now c.args.asked.now.acl.now c.args.asked.now.flags _ _ _ (to_z-of_z w32 _ fits) c.in-Refused.is c.in_ok-named.ensures c.args.asked.now.content.now in
    subst (λ (z : ℤ). IsPartChoice (parts.Create c.args.asked.now.path.now c.args.asked.now.content.now c.args.asked.now.acl.now c.args.asked.now.flags) c.args.who c.args.now (layered c.args.over.now c.args.view.now) (chosen.Refused z)) (sym (to_z-of_z w32 _ code))
    (refused_part (parts.Create c.args.asked.now.path.now c.args.asked.now.content.now c.args.asked.now.acl.now c.args.asked.now.flags) c.args.who c.args.now (layered c.args.over.now c.args.view.now) c.in-Refused.code form)

pub created_below-requires-clause-prefix : goal.created_below-requires-clause-prefix
created_below-requires-clause-prefix c =
    let fits : SFits w32 c.args.asked.now.flags = search rules in
    let flags = to_z-of_z w32 _ fits in
    let sequential : c.is_sequential.result ≡ is_sequential c.args.asked.now.flags = c.is_sequential.ensures ∙ ap is_sequential flags in
    let form = form_at c.args.asked.now.path.now c.args.asked.now.acl.now c.args.asked.now.flags _ _ _ flags c.in-Valid.is c.in_ok-named.ensures c.args.asked.now.content.now in
    let valid = create_path_valid c.args.asked.now.path.now c.args.asked.now.content.now c.args.asked.now.acl.now c.args.asked.now.flags form.1 in
    λ t. subst (λ b. is_valid b c.args.asked.now.path.now ≡ true) (sym sequential ∙ t) valid

pub created_below-requires-clause-named : goal.created_below-requires-clause-named
created_below-requires-clause-named c =
    let fits : SFits w32 c.args.asked.now.flags = search rules in
    let flags = to_z-of_z w32 _ fits in
    let sequential : c.is_sequential.result ≡ is_sequential c.args.asked.now.flags = c.is_sequential.ensures ∙ ap is_sequential flags in
    let form = form_at c.args.asked.now.path.now c.args.asked.now.acl.now c.args.asked.now.flags _ _ _ flags c.in-Valid.is c.in_ok-named.ensures c.args.asked.now.content.now in
    λ f. form.0 ∙ ap (λ b. tested b c.args.asked.now.path.now) (sym sequential ∙ f)

pub returns-in-Some : goal.returns-in-Some
returns-in-Some c =
    let fits : SFits w32 c.args.asked.now.flags = search rules in
    let flags = to_z-of_z w32 _ fits in
    let sequential : c.is_sequential.result ≡ is_sequential c.args.asked.now.flags = c.is_sequential.ensures ∙ ap is_sequential flags in
    let ephemeral : c.is_ephemeral.result ≡ is_ephemeral c.args.asked.now.flags = c.is_ephemeral.ensures ∙ ap is_ephemeral flags in
    let form = form_at c.args.asked.now.path.now c.args.asked.now.acl.now c.args.asked.now.flags _ _ _ flags c.in-Valid.is c.in_ok-named.ensures c.args.asked.now.content.now in
    let valid = create_path_valid c.args.asked.now.path.now c.args.asked.now.content.now c.args.asked.now.acl.now c.args.asked.now.flags form.1 in
    let session_fits : SFits w64 c.args.who.session = search rules in
    let session = to_z-of_z w64 _ session_fits in
    let long : IsLongCount c.args.who.session = first_of (search rules, grind (arith, common_steps)) in
    let up : parent (tested (is_sequential c.args.asked.now.flags) c.args.asked.now.path.now) ≡ Some c.in-Some.parent = ap parent (sym form.0) ∙ sym c.in_ok-parent.ensures.parent ∙ c.in-Some.is in
    IfOk-weaker c.created_below.result _ _ (λ d is.
    created_part c.args.asked.now.path.now c.args.asked.now.content.now c.args.asked.now.acl.now c.args.asked.now.flags c.args.who c.args.now (layered c.args.over.now c.args.view.now) form.1 valid c.in-Some.parent up c.requires.short c.requires.time long d
    (subst (λ (t : Bool × Bool × ℤ). IsCreatedBelow (layered c.args.over.now c.args.view.now) c.args.asked.now.path.now c.args.asked.now.content.now c.args.now t.0 t.1 t.2 c.in-Some.parent d) (λ i. (sequential i, ephemeral i, session i)) is)) c.created_below.ensures

pub returns-in-None : goal.returns-in-None
returns-in-None c =
    let fits : SFits w32 c.args.asked.now.flags = search rules in
    let form = form_at c.args.asked.now.path.now c.args.asked.now.acl.now c.args.asked.now.flags _ _ _ (to_z-of_z w32 _ fits) c.in-Valid.is c.in_ok-named.ensures c.args.asked.now.content.now in
    let valid = create_path_valid c.args.asked.now.path.now c.args.asked.now.content.now c.args.asked.now.acl.now c.args.asked.now.flags form.1 in
    let up : parent (tested (is_sequential c.args.asked.now.flags) c.args.asked.now.path.now) ≡ None = ap parent (sym form.0) ∙ sym c.in_ok-parent.ensures.parent ∙ c.in-None.is in
    created_root c.args.asked.now.path.now c.args.asked.now.content.now c.args.asked.now.acl.now c.args.asked.now.flags c.args.who c.args.now (layered c.args.over.now c.args.view.now) form.1 valid up
