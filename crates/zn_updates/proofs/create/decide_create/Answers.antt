-- The decision is by the records that were seen, or by the form.
use Rattle.std.proofs.Common.{◌≡◌, ℤ, Bool, true, ◌∙◌, refl, sym, ap, subst, w32, w64, rules, arith}
use Rattle.std.specs.Prelude.{None, nat_abs}
use Rattle.std.proofs.lemmas.Grind.{common_steps}
use Rattle.std.proofs.lemmas.Int.{to_z-of_z}
use Rattle.std.proofs.lemmas.Result.{IfOk-weaker}
use mir.Val.{SFits}
use Rattle.zk_model.specs.PathFaults.{is_valid, tested}
use Rattle.zk_model.specs.Paths.{parent}
use Rattle.zk_model.specs.Single.{is_ephemeral, is_sequential}
use Rattle.zk_model.specs.declared.request.Request.TheVariants as req
use Rattle.zn_layout.proofs.Paths.{path_short}
use Rattle.zn_layout.specs.Keys.{SessionKey}
use Rattle.zn_layout.specs.Records.{IsLongCount}
use Rattle.zn_view.specs.declared.plan.Decision.TheVariants.{Answered}
use Rattle.zn_view.specs.Lookups.{HasSeen}
use Rattle.zk_model.specs.declared.reply.Reply.TheVariants as reply
use Rattle.zx_base.specs.Maps.{Bytes}
use Rattle.zn_updates.specs.Deciding.{IsCreate, IsUpLookedUp}
use Rattle.zn_updates.proofs.Forms.{create_path_valid}
use Rattle.zn_updates.proofs.Plans.{refused_form, refused_sound}
use Rattle.zn_updates.proofs.CreateClauses.{form_at, create_refused, all_promised, own_looked_up, up_looked_up, create-by_tree}
use Rattle.zn_updates.proofs.Writing.{create-written}
use Rattle.zn_updates.proofs.create.decide_create.Goals as goal

pub create_named-requires-clause-prefix : goal.create_named-requires-clause-prefix
create_named-requires-clause-prefix c =
    let fits : SFits w32 c.args.asked.now.flags = search rules in
    let flags = to_z-of_z w32 _ fits in
    let sequential : c.is_sequential-sequential.result ≡ is_sequential c.args.asked.now.flags = c.is_sequential-sequential.ensures ∙ ap is_sequential flags in
    let ephemeral : c.is_ephemeral-ephemeral.result ≡ is_ephemeral c.args.asked.now.flags = c.is_ephemeral-ephemeral.ensures ∙ ap is_ephemeral flags in
    let form = form_at c.args.asked.now.path.now c.args.asked.now.acl.now c.args.asked.now.flags _ _ _ flags c.in-Valid.is c.in_ok-named.ensures c.args.asked.now.content.now in
    let valid = create_path_valid c.args.asked.now.path.now c.args.asked.now.content.now c.args.asked.now.acl.now c.args.asked.now.flags form.1 in
    λ t. subst (λ b. is_valid b c.args.asked.now.path.now ≡ true) (sym sequential ∙ t) valid

pub create_named-requires-clause-long : goal.create_named-requires-clause-long
create_named-requires-clause-long c =
    let fits : SFits w32 c.args.asked.now.flags = search rules in
    let flags = to_z-of_z w32 _ fits in
    let sequential : c.is_sequential-sequential.result ≡ is_sequential c.args.asked.now.flags = c.is_sequential-sequential.ensures ∙ ap is_sequential flags in
    let form = form_at c.args.asked.now.path.now c.args.asked.now.acl.now c.args.asked.now.flags _ _ _ flags c.in-Valid.is c.in_ok-named.ensures c.args.asked.now.content.now in
    let valid = create_path_valid c.args.asked.now.path.now c.args.asked.now.content.now c.args.asked.now.acl.now c.args.asked.now.flags form.1 in
    λ f. path_short c.args.asked.now.path.now (subst (λ b. is_valid b c.args.asked.now.path.now ≡ true) (sym sequential ∙ f) valid)

pub create_named-requires-clause-named : goal.create_named-requires-clause-named
create_named-requires-clause-named c =
    let fits : SFits w32 c.args.asked.now.flags = search rules in
    let flags = to_z-of_z w32 _ fits in
    let sequential : c.is_sequential-sequential.result ≡ is_sequential c.args.asked.now.flags = c.is_sequential-sequential.ensures ∙ ap is_sequential flags in
    let ephemeral : c.is_ephemeral-ephemeral.result ≡ is_ephemeral c.args.asked.now.flags = c.is_ephemeral-ephemeral.ensures ∙ ap is_ephemeral flags in
    let form = form_at c.args.asked.now.path.now c.args.asked.now.acl.now c.args.asked.now.flags _ _ _ flags c.in-Valid.is c.in_ok-named.ensures c.args.asked.now.content.now in
    let valid = create_path_valid c.args.asked.now.path.now c.args.asked.now.content.now c.args.asked.now.acl.now c.args.asked.now.flags form.1 in
    λ f. form.0 ∙ ap (λ b. tested b c.args.asked.now.path.now) (sym sequential ∙ f)

pub create_named-requires-clause-up : goal.create_named-requires-clause-up
create_named-requires-clause-up c =
    let fits : SFits w32 c.args.asked.now.flags = search rules in
    let flags = to_z-of_z w32 _ fits in
    let sequential : c.is_sequential-sequential.result ≡ is_sequential c.args.asked.now.flags = c.is_sequential-sequential.ensures ∙ ap is_sequential flags in
    let ephemeral : c.is_ephemeral-ephemeral.result ≡ is_ephemeral c.args.asked.now.flags = c.is_ephemeral-ephemeral.ensures ∙ ap is_ephemeral flags in
    let form = form_at c.args.asked.now.path.now c.args.asked.now.acl.now c.args.asked.now.flags _ _ _ flags c.in-Valid.is c.in_ok-named.ensures c.args.asked.now.content.now in
    let valid = create_path_valid c.args.asked.now.path.now c.args.asked.now.content.now c.args.asked.now.acl.now c.args.asked.now.flags form.1 in
    subst (λ (p : Bytes). IsUpLookedUp c.args.view.now (parent p)) (sym form.0) (up_looked_up c.args.asked.now.path.now c.args.asked.now.content.now c.args.asked.now.acl.now c.args.asked.now.flags form.1 valid c.args.who c.args.view.now c.requires.whole _ refl)

pub create_named-requires-clause-own : goal.create_named-requires-clause-own
create_named-requires-clause-own c =
    let fits : SFits w32 c.args.asked.now.flags = search rules in
    let flags = to_z-of_z w32 _ fits in
    let sequential : c.is_sequential-sequential.result ≡ is_sequential c.args.asked.now.flags = c.is_sequential-sequential.ensures ∙ ap is_sequential flags in
    let ephemeral : c.is_ephemeral-ephemeral.result ≡ is_ephemeral c.args.asked.now.flags = c.is_ephemeral-ephemeral.ensures ∙ ap is_ephemeral flags in
    let form = form_at c.args.asked.now.path.now c.args.asked.now.acl.now c.args.asked.now.flags _ _ _ flags c.in-Valid.is c.in_ok-named.ensures c.args.asked.now.content.now in
    let valid = create_path_valid c.args.asked.now.path.now c.args.asked.now.content.now c.args.asked.now.acl.now c.args.asked.now.flags form.1 in
    let session_fits : SFits w64 c.args.who.session = search rules in
    λ e. subst (λ (z : ℤ). HasSeen c.args.view.now (SessionKey (nat_abs z))) (sym (to_z-of_z w64 _ session_fits)) (own_looked_up c.args.asked.now.path.now c.args.asked.now.content.now c.args.asked.now.acl.now c.args.asked.now.flags form.1 valid c.args.who c.args.view.now c.requires.whole (sym ephemeral ∙ e))

pub returns-in-Valid-clause-form : goal.returns-in-Valid-clause-form
returns-in-Valid-clause-form c =
    let fits : SFits w32 c.args.asked.now.flags = search rules in
    let flags = to_z-of_z w32 _ fits in
    let sequential : c.is_sequential-sequential.result ≡ is_sequential c.args.asked.now.flags = c.is_sequential-sequential.ensures ∙ ap is_sequential flags in
    let ephemeral : c.is_ephemeral-ephemeral.result ≡ is_ephemeral c.args.asked.now.flags = c.is_ephemeral-ephemeral.ensures ∙ ap is_ephemeral flags in
    let form = form_at c.args.asked.now.path.now c.args.asked.now.acl.now c.args.asked.now.flags _ _ _ flags c.in-Valid.is c.in_ok-named.ensures c.args.asked.now.content.now in
    let valid = create_path_valid c.args.asked.now.path.now c.args.asked.now.content.now c.args.asked.now.acl.now c.args.asked.now.flags form.1 in
    let session_fits : SFits w64 c.args.who.session = search rules in
    let session = to_z-of_z w64 _ session_fits in
    let long : IsLongCount c.args.who.session = first_of (search rules, grind (arith, common_steps)) in
    IfOk-weaker c.create_named.result _ _ (λ d is.
    (all_promised c.args.asked.now.path.now c.args.asked.now.content.now c.args.asked.now.acl.now c.args.asked.now.flags form.1 valid c.args.who c.args.view.now c.args.now c.requires.time c.requires.short c.requires.real long c.requires.whole d _ refl
    (subst (λ (t : Bool × Bool × ℤ × Bytes). IsCreate c.args.view.now c.args.asked.now.path.now c.args.asked.now.content.now c.args.now t.0 t.1 t.2 (parent t.3) d) (λ i. (sequential i, ephemeral i, session i, form.0 i)) is)).0) c.create_named.ensures

pub returns-in-Valid-clause-sound : goal.returns-in-Valid-clause-sound
returns-in-Valid-clause-sound c =
    let fits : SFits w32 c.args.asked.now.flags = search rules in
    let flags = to_z-of_z w32 _ fits in
    let sequential : c.is_sequential-sequential.result ≡ is_sequential c.args.asked.now.flags = c.is_sequential-sequential.ensures ∙ ap is_sequential flags in
    let ephemeral : c.is_ephemeral-ephemeral.result ≡ is_ephemeral c.args.asked.now.flags = c.is_ephemeral-ephemeral.ensures ∙ ap is_ephemeral flags in
    let form = form_at c.args.asked.now.path.now c.args.asked.now.acl.now c.args.asked.now.flags _ _ _ flags c.in-Valid.is c.in_ok-named.ensures c.args.asked.now.content.now in
    let valid = create_path_valid c.args.asked.now.path.now c.args.asked.now.content.now c.args.asked.now.acl.now c.args.asked.now.flags form.1 in
    let session_fits : SFits w64 c.args.who.session = search rules in
    let session = to_z-of_z w64 _ session_fits in
    let long : IsLongCount c.args.who.session = first_of (search rules, grind (arith, common_steps)) in
    IfOk-weaker c.create_named.result _ _ (λ d is.
    (all_promised c.args.asked.now.path.now c.args.asked.now.content.now c.args.asked.now.acl.now c.args.asked.now.flags form.1 valid c.args.who c.args.view.now c.args.now c.requires.time c.requires.short c.requires.real long c.requires.whole d _ refl
    (subst (λ (t : Bool × Bool × ℤ × Bytes). IsCreate c.args.view.now c.args.asked.now.path.now c.args.asked.now.content.now c.args.now t.0 t.1 t.2 (parent t.3) d) (λ i. (sequential i, ephemeral i, session i, form.0 i)) is)).1) c.create_named.ensures

pub returns-in-Valid-clause-plan : goal.returns-in-Valid-clause-plan
returns-in-Valid-clause-plan c =
    let fits : SFits w32 c.args.asked.now.flags = search rules in
    let flags = to_z-of_z w32 _ fits in
    let sequential : c.is_sequential-sequential.result ≡ is_sequential c.args.asked.now.flags = c.is_sequential-sequential.ensures ∙ ap is_sequential flags in
    let ephemeral : c.is_ephemeral-ephemeral.result ≡ is_ephemeral c.args.asked.now.flags = c.is_ephemeral-ephemeral.ensures ∙ ap is_ephemeral flags in
    let form = form_at c.args.asked.now.path.now c.args.asked.now.acl.now c.args.asked.now.flags _ _ _ flags c.in-Valid.is c.in_ok-named.ensures c.args.asked.now.content.now in
    let valid = create_path_valid c.args.asked.now.path.now c.args.asked.now.content.now c.args.asked.now.acl.now c.args.asked.now.flags form.1 in
    let session_fits : SFits w64 c.args.who.session = search rules in
    let session = to_z-of_z w64 _ session_fits in
    let long : IsLongCount c.args.who.session = first_of (search rules, grind (arith, common_steps)) in
    IfOk-weaker c.create_named.result _ _ (λ d is.
    (all_promised c.args.asked.now.path.now c.args.asked.now.content.now c.args.asked.now.acl.now c.args.asked.now.flags form.1 valid c.args.who c.args.view.now c.args.now c.requires.time c.requires.short c.requires.real long c.requires.whole d _ refl
    (subst (λ (t : Bool × Bool × ℤ × Bytes). IsCreate c.args.view.now c.args.asked.now.path.now c.args.asked.now.content.now c.args.now t.0 t.1 t.2 (parent t.3) d) (λ i. (sequential i, ephemeral i, session i, form.0 i)) is)).2) c.create_named.ensures

pub returns-in-Refused-clause-form : goal.returns-in-Refused-clause-form
returns-in-Refused-clause-form c =
    let fits : SFits w32 c.args.asked.now.flags = search rules in
    let flags = to_z-of_z w32 _ fits in
    let form = form_at c.args.asked.now.path.now c.args.asked.now.acl.now c.args.asked.now.flags _ _ _ flags c.in-Refused.is c.in_ok-named.ensures c.args.asked.now.content.now in
    let code_fits : SFits w32 c.in-Refused.code = search rules in
    refused_form (req.Create c.args.asked.now.path.now c.args.asked.now.content.now c.args.asked.now.acl.now c.args.asked.now.flags) c.in-Refused.code (create_refused c.args.asked.now.path.now c.args.asked.now.content.now c.args.asked.now.acl.now c.args.asked.now.flags c.in-Refused.code form) c.refused.result
    (c.refused.ensures ∙ ap (λ (k : ℤ). Answered (reply.Refused k) None) (to_z-of_z w32 _ code_fits))

pub returns-in-Refused-clause-sound : goal.returns-in-Refused-clause-sound
returns-in-Refused-clause-sound c =
    let fits : SFits w32 c.args.asked.now.flags = search rules in
    let flags = to_z-of_z w32 _ fits in
    let form = form_at c.args.asked.now.path.now c.args.asked.now.acl.now c.args.asked.now.flags _ _ _ flags c.in-Refused.is c.in_ok-named.ensures c.args.asked.now.content.now in
    let code_fits : SFits w32 c.in-Refused.code = search rules in
    refused_sound (req.Create c.args.asked.now.path.now c.args.asked.now.content.now c.args.asked.now.acl.now c.args.asked.now.flags) c.in-Refused.code (create_refused c.args.asked.now.path.now c.args.asked.now.content.now c.args.asked.now.acl.now c.args.asked.now.flags c.in-Refused.code form) c.args.who c.args.view.now c.refused.result

pub returns-in-Valid-clause-tree : goal.returns-in-Valid-clause-tree
returns-in-Valid-clause-tree c =
    let fits : SFits w32 c.args.asked.now.flags = search rules in
    let flags = to_z-of_z w32 _ fits in
    let sequential : c.is_sequential-sequential.result ≡ is_sequential c.args.asked.now.flags = c.is_sequential-sequential.ensures ∙ ap is_sequential flags in
    let ephemeral : c.is_ephemeral-ephemeral.result ≡ is_ephemeral c.args.asked.now.flags = c.is_ephemeral-ephemeral.ensures ∙ ap is_ephemeral flags in
    let form = form_at c.args.asked.now.path.now c.args.asked.now.acl.now c.args.asked.now.flags _ _ _ flags c.in-Valid.is c.in_ok-named.ensures c.args.asked.now.content.now in
    let session_fits : SFits w64 c.args.who.session = search rules in
    let session = to_z-of_z w64 _ session_fits in
    IfOk-weaker c.create_named.result _ _ (λ d is.
    create-by_tree c.args.view.now c.args.asked.now.path.now c.args.asked.now.content.now c.args.now (is_sequential c.args.asked.now.flags) (is_ephemeral c.args.asked.now.flags) c.args.who.session (parent (tested (is_sequential c.args.asked.now.flags) c.args.asked.now.path.now)) d
    (subst (λ (t : Bool × Bool × ℤ × Bytes). IsCreate c.args.view.now c.args.asked.now.path.now c.args.asked.now.content.now c.args.now t.0 t.1 t.2 (parent t.3) d) (λ i. (sequential i, ephemeral i, session i, form.0 i)) is)) c.create_named.ensures

pub returns-in-Valid-clause-writes : goal.returns-in-Valid-clause-writes
returns-in-Valid-clause-writes c =
    let fits : SFits w32 c.args.asked.now.flags = search rules in
    let flags = to_z-of_z w32 _ fits in
    let sequential : c.is_sequential-sequential.result ≡ is_sequential c.args.asked.now.flags = c.is_sequential-sequential.ensures ∙ ap is_sequential flags in
    let ephemeral : c.is_ephemeral-ephemeral.result ≡ is_ephemeral c.args.asked.now.flags = c.is_ephemeral-ephemeral.ensures ∙ ap is_ephemeral flags in
    let form = form_at c.args.asked.now.path.now c.args.asked.now.acl.now c.args.asked.now.flags _ _ _ flags c.in-Valid.is c.in_ok-named.ensures c.args.asked.now.content.now in
    let session_fits : SFits w64 c.args.who.session = search rules in
    let session = to_z-of_z w64 _ session_fits in
    IfOk-weaker c.create_named.result _ _ (λ d is.
    create-written c.args.who c.args.view.now c.args.asked.now.path.now c.args.asked.now.content.now c.args.asked.now.acl.now c.args.asked.now.flags c.args.now d _ refl
    (subst (λ (t : Bool × Bool × ℤ × Bytes). IsCreate c.args.view.now c.args.asked.now.path.now c.args.asked.now.content.now c.args.now t.0 t.1 t.2 (parent t.3) d) (λ i. (sequential i, ephemeral i, session i, form.0 i)) is)) c.create_named.ensures
