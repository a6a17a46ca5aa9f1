-- A create of a valid form reads its keys, any other nothing.
use Rattle.std.proofs.Common.{◌≡◌, ◌≤◌, ◌<◌, true, ◌∙◌, sym, ap, subst, length, w32, w64, rules, arith}
use Rattle.std.specs.Prelude.{Option, Some, None, [], map, IfSome, IsTrue}
use Rattle.std.proofs.lemmas.Int.{to_z-of_z}
use Rattle.std.proofs.lemmas.Result.{IfOk-weaker}
use mir.Val.{SFits}
use Rattle.zk_model.specs.Limits.{max_path}
use Rattle.zk_model.specs.PathFaults.{is_valid}
use Rattle.zk_model.specs.Paths.{is_path, parent}
use Rattle.zk_model.specs.Single.{is_ephemeral, is_sequential}
use Rattle.zk_model.specs.declared.request.Request.TheVariants as req
use Rattle.zn_layout.proofs.Paths.{path_short}
use Rattle.zx_base.specs.Maps.{Bytes}
use Rattle.zn_view.specs.Lacking.{lacking}
use Rattle.zn_layout.specs.Keys.{key_bytes}
use Rattle.zn_updates.specs.KeysRead.{create_keys}
use Rattle.zn_updates.proofs.Forms.{create_path_valid}
use Rattle.zn_updates.proofs.Plans.{refused_needs}
use Rattle.zn_updates.proofs.CreateClauses.{form_at, create_refused, create_needs}
use Rattle.zn_updates.proofs.create.create_needs.Goals as goal

pub create_wants-requires-clause-prefix : goal.create_wants-requires-clause-prefix
create_wants-requires-clause-prefix c =
    let fits : SFits w32 c.args.flags = search rules in
    let flags = to_z-of_z w32 _ fits in
    let sequential : c.is_sequential-sequential.result ≡ is_sequential c.args.flags = c.is_sequential-sequential.ensures ∙ ap is_sequential flags in
    let ephemeral : c.is_ephemeral-ephemeral.result ≡ is_ephemeral c.args.flags = c.is_ephemeral-ephemeral.ensures ∙ ap is_ephemeral flags in
    let form = form_at c.args.path.now c.args.acl.now c.args.flags _ _ _ flags c.in-Valid.is c.in_ok-named.ensures [] in
    let valid = create_path_valid c.args.path.now [] c.args.acl.now c.args.flags form.1 in
    λ t. subst (λ b. is_valid b c.args.path.now ≡ true) (sym sequential ∙ t) valid

pub create_wants-requires-clause-short : goal.create_wants-requires-clause-short
create_wants-requires-clause-short c =
    let fits : SFits w32 c.args.flags = search rules in
    let flags = to_z-of_z w32 _ fits in
    let sequential : c.is_sequential-sequential.result ≡ is_sequential c.args.flags = c.is_sequential-sequential.ensures ∙ ap is_sequential flags in
    let ephemeral : c.is_ephemeral-ephemeral.result ≡ is_ephemeral c.args.flags = c.is_ephemeral-ephemeral.ensures ∙ ap is_ephemeral flags in
    let form = form_at c.args.path.now c.args.acl.now c.args.flags _ _ _ flags c.in-Valid.is c.in_ok-named.ensures [] in
    let valid = create_path_valid c.args.path.now [] c.args.acl.now c.args.flags form.1 in
    λ f. path_short c.args.path.now (subst (λ b. is_valid b c.args.path.now ≡ true) (sym sequential ∙ f) valid)

shorter : (o : Option Bytes) (p : Bytes) → IfSome o (λ q. length q < length p) → length p ≤ max_path → IfSome o (λ q. length q ≤ max_path)
shorter None p h short = tt
shorter (Some q) p h short = omega (arith, h, short)

pub create_wants-requires-clause-parent : goal.create_wants-requires-clause-parent
create_wants-requires-clause-parent c =
    let valid : IsTrue (is_path c.in-Valid.named) = search rules in
    shorter _ c.in-Valid.named c.in_ok-parent-in-Valid.ensures.shorter (path_short c.in-Valid.named valid)

pub returns-in_ok-parent-in-Valid : goal.returns-in_ok-parent-in-Valid
returns-in_ok-parent-in-Valid c =
    let fits : SFits w32 c.args.flags = search rules in
    let flags = to_z-of_z w32 _ fits in
    let sequential : c.is_sequential-sequential.result ≡ is_sequential c.args.flags = c.is_sequential-sequential.ensures ∙ ap is_sequential flags in
    let ephemeral : c.is_ephemeral-ephemeral.result ≡ is_ephemeral c.args.flags = c.is_ephemeral-ephemeral.ensures ∙ ap is_ephemeral flags in
    let session_fits : SFits w64 c.args.who.session = search rules in
    let session = to_z-of_z w64 _ session_fits in
    IfOk-weaker c.create_wants.result _ _ (λ ws is. λ content.
    let form = form_at c.args.path.now c.args.acl.now c.args.flags _ _ _ flags c.in-Valid.is c.in_ok-named.ensures content in
    let valid = create_path_valid c.args.path.now content c.args.acl.now c.args.flags form.1 in
    create_needs c.args.path.now content c.args.acl.now c.args.flags form.1 valid c.args.who c.args.view.now ws c.in_ok-parent-in-Valid.field-0 is.0
    (c.in_ok-parent-in-Valid.ensures.parent ∙ ap parent form.0) is.1
    (is.2 ∙ (λ i. lacking c.args.view.now (map key_bytes (create_keys (sequential i) (ephemeral i) c.args.path.now c.in_ok-parent-in-Valid.field-0 (session i) is.0))))) c.create_wants.ensures

pub returns-in-Refused : goal.returns-in-Refused
returns-in-Refused c = λ content.
    let fits : SFits w32 c.args.flags = search rules in
    let flags = to_z-of_z w32 _ fits in
    let form = form_at c.args.path.now c.args.acl.now c.args.flags _ _ _ flags c.in-Refused.is c.in_ok-named.ensures content in
    refused_needs (req.Create c.args.path.now content c.args.acl.now c.args.flags) c.in-Refused.field-0 (create_refused c.args.path.now content c.args.acl.now c.args.flags c.in-Refused.field-0 form) c.args.who c.args.view.now c.new.result c.new.ensures
