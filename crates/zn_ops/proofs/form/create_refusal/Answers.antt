use Rattle.std.proofs.Common.{rules, ℤ, Some, sym, ap, ◌∙◌, subst}
use Rattle.std.specs.Int.{w32}
use Rattle.std.proofs.lemmas.Int.{to_z-of_z}
use Rattle.zx_base.specs.Maps.{Bytes}
use Rattle.zk_model.specs.declared.request.Part.TheVariants as part
use Rattle.zk_model.specs.Single.{form_refusal, is_sequential}
use Rattle.zn_updates.specs.declared.form.Form.{Form}
use Rattle.zn_updates.specs.Forms.{IsFormOf}
use Rattle.zn_ops.proofs.form.create_refusal.Goals as goal

pub returns-in-Valid : goal.returns-in-Valid
returns-in-Valid c = λ (content : Bytes).
    let Is = λ (x : ℤ) (f : Form). IsFormOf (is_sequential x) c.args.text.now (form_refusal (part.Create c.args.text.now content c.args.acl.now x)) f in
    let found = subst (λ (x : ℤ). Is x c.in_ok-_path.field-0) (to_z-of_z w32 c.args.flags c.ranges.flags) (c.in_ok-_path.ensures content) in
    sym (subst (Is c.args.flags) c.in-Valid.is found).1

pub returns-in-Refused : goal.returns-in-Refused
returns-in-Refused c = λ (content : Bytes).
    let Is = λ (x : ℤ) (f : Form). IsFormOf (is_sequential x) c.args.text.now (form_refusal (part.Create c.args.text.now content c.args.acl.now x)) f in
    let found = subst (λ (x : ℤ). Is x c.in_ok-_path.field-0) (to_z-of_z w32 c.args.flags c.ranges.flags) (c.in_ok-_path.ensures content) in
    ap (λ (z : ℤ). Some z) (to_z-of_z w32 c.in-Refused.code (search rules)) ∙ sym (subst (Is c.args.flags) c.in-Refused.is found)
