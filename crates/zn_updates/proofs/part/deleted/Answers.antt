use Rattle.std.proofs.Common.{◌≡◌, ◌∙◌, ℤ, sym, ap, subst, w32, rules}
use Rattle.std.specs.Prelude.{Option, Some, None}
use Rattle.std.proofs.lemmas.Bool.{and_parts}
use Rattle.std.proofs.lemmas.Int.{to_z-of_z}
use Rattle.zk_model.proofs.ValidPaths.{parent-valid}
use Rattle.std.proofs.lemmas.Result.{IfOk-weaker}
use mir.Val.{SFits}
use Rattle.zk_model.specs.Codes.{bad_arguments}
use Rattle.zk_model.specs.Paths.{parent}
use Rattle.zk_model.specs.declared.request.Part.TheVariants as parts
use Rattle.zx_base.specs.Maps.{Bytes}
use Rattle.zn_updates.specs.Forms.{IsInnerPath}
use Rattle.zn_updates.specs.Layers.{layered}
use Rattle.zn_updates.specs.Parts.{IsDeletedBelow}
use Rattle.zn_updates.proofs.Forms.{delete_refusal}
use Rattle.zn_updates.proofs.PartChoices.{deleted_orphan, deleted_part, refused_part}
use Rattle.zn_updates.proofs.part.deleted.Goals as goal

pub returns-in-Some-2 : goal.returns-in-Some-2
returns-in-Some-2 c =
    let path = subst (λ (o : Option Bytes). IsInnerPath c.args.path.now o) c.in-Some.is c.in_ok-path.ensures in
    let fits : SFits w32 c.args.version = search rules in
    let up : parent c.args.path.now ≡ Some c.in-Some-2.parent = ap parent (sym path.0) ∙ sym c.in_ok-parent-in-Some.ensures.parent ∙ c.in-Some-2.is in
    IfOk-weaker c.deleted_below.result _ _ (λ d is.
    deleted_part c.args.path.now c.args.version c.args.who c.args.now (layered c.args.over.now c.args.view.now) path.1 c.in-Some-2.parent up (and_parts _ _ path.1).0 (parent-valid c.args.path.now c.in-Some-2.parent (and_parts _ _ path.1).0 up).0 d
    (subst (λ (t : Bytes × ℤ). IsDeletedBelow (layered c.args.over.now c.args.view.now) t.0 t.1 c.in-Some-2.parent d) (λ i. (path.0 i, to_z-of_z w32 _ fits i)) is)) c.deleted_below.ensures

pub returns-in-Some : goal.returns-in-Some
returns-in-Some c =
    let path = subst (λ (o : Option Bytes). IsInnerPath c.args.path.now o) c.in-Some.is c.in_ok-path.ensures in
    let up : parent c.args.path.now ≡ None = ap parent (sym path.0) ∙ sym c.in_ok-parent-in-Some.ensures.parent ∙ c.in-None-2.is in
    deleted_orphan c.args.path.now c.args.version c.args.who c.args.now (layered c.args.over.now c.args.view.now) path.1 up

pub returns : goal.returns
returns c =
    let path = subst (λ (o : Option Bytes). IsInnerPath c.args.path.now o) c.in-None.is c.in_ok-path.ensures in
    refused_part (parts.Delete c.args.path.now c.args.version) c.args.who c.args.now (layered c.args.over.now c.args.view.now) bad_arguments (delete_refusal c.args.path.now c.args.version _ path)
