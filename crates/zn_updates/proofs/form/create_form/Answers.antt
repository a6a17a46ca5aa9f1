-- The refusal by the tests that were made.
use Rattle.std.proofs.Common.{true, false, refl, sym, ap, ◌∙◌, subst, w32, rules}
use Rattle.std.specs.Prelude.{Option}
use Rattle.std.proofs.lemmas.Int.{to_z-of_z}
use mir.Val.{SFits}
use Rattle.zx_base.specs.Maps.{Bytes}
use Rattle.zk_model.specs.PathFaults.{is_valid, tested, IsPathOf}
use Rattle.zk_model.specs.Single.{is_sequential, is_create_mode}
use Rattle.zn_updates.proofs.Forms.{create_refusal, invalid_refusal}
use Rattle.zn_updates.proofs.form.create_form.Goals as goal

pub returns-in_default : goal.returns-in_default
returns-in_default c = λ content.
    let fits : SFits w32 c.args.flags = search rules in
    let flags = to_z-of_z w32 _ fits in
    let sequential = sym (c.is_sequential.ensures ∙ ap is_sequential flags) in
    invalid_refusal c.args.path.now content c.args.acl.now c.args.flags
    (ap (λ b. is_valid b c.args.path.now) sequential ∙ subst (λ (o : Option Bytes). IsPathOf c.is_sequential.result c.args.path.now o) c.in_default.is c.in_ok-named.ensures)

pub returns-then-not-is_create_mode : goal.returns-then-not-is_create_mode
returns-then-not-is_create_mode c = λ content.
    let fits : SFits w32 c.args.flags = search rules in
    let flags = to_z-of_z w32 _ fits in
    let sequential = sym (c.is_sequential.ensures ∙ ap is_sequential flags) in
    let path = subst (λ (o : Option Bytes). IsPathOf c.is_sequential.result c.args.path.now o) c.in-Some.is c.in_ok-named.ensures in
    create_refusal c.args.path.now content c.args.acl.now c.args.flags true false _ (ap (λ b. is_valid b c.args.path.now) sequential ∙ path.1) (sym (c.is_create_mode.ensures ∙ ap is_create_mode flags) ∙ c.if-not-is_create_mode.true) refl

pub returns-then-not-is_open_acl : goal.returns-then-not-is_open_acl
returns-then-not-is_open_acl c = λ content.
    let fits : SFits w32 c.args.flags = search rules in
    let flags = to_z-of_z w32 _ fits in
    let sequential = sym (c.is_sequential.ensures ∙ ap is_sequential flags) in
    let path = subst (λ (o : Option Bytes). IsPathOf c.is_sequential.result c.args.path.now o) c.in-Some.is c.in_ok-named.ensures in
    create_refusal c.args.path.now content c.args.acl.now c.args.flags true true false (ap (λ b. is_valid b c.args.path.now) sequential ∙ path.1) (sym (c.is_create_mode.ensures ∙ ap is_create_mode flags) ∙ c.if-not-is_create_mode.false) (sym c.is_open_acl.ensures ∙ c.if-not-is_open_acl.true)

pub returns : goal.returns
returns c = λ content.
    let fits : SFits w32 c.args.flags = search rules in
    let flags = to_z-of_z w32 _ fits in
    let sequential = sym (c.is_sequential.ensures ∙ ap is_sequential flags) in
    let path = subst (λ (o : Option Bytes). IsPathOf c.is_sequential.result c.args.path.now o) c.in-Some.is c.in_ok-named.ensures in (
      path.0 ∙ ap (λ b. tested b c.args.path.now) (sym sequential),
      create_refusal c.args.path.now content c.args.acl.now c.args.flags true true true (ap (λ b. is_valid b c.args.path.now) sequential ∙ path.1) (sym (c.is_create_mode.ensures ∙ ap is_create_mode flags) ∙ c.if-not-is_create_mode.false) (sym c.is_open_acl.ensures ∙ c.if-not-is_open_acl.false),
    )
