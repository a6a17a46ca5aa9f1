use Rattle.std.proofs.Common.{ℤ, List, sym, subst, rules, w32, w64}
use Rattle.std.proofs.lemmas.Int.{to_z-of_z}
use Rattle.std.proofs.lemmas.Result.{IfOk-weaker}
use mir.Val.{SFits}
use Rattle.zx_base.specs.Maps.{Bytes}
use Rattle.zk_model.specs.declared.request.Acl.{Acl}
use Rattle.zk_model.specs.declared.request.Part.{Part}
use Rattle.zk_model.specs.declared.request.Part.TheVariants as parts
use Rattle.zn_multi.specs.Reading.{IsPartRead}
use Rattle.zn_multi.proofs.reading.read_part.Goals as goal

pub returns-in-Create : goal.returns-in-Create
returns-in-Create c =
    let flags_fit : SFits w32 c.in-Create.flags = search rules in
    let session_fits : SFits w64 c.args.session = search rules in
    let flags = to_z-of_z w32 _ flags_fit in
    let session = to_z-of_z w64 _ session_fits in
    IfOk-weaker c.read_create.result _ _ (λ r is. subst (λ (p : Part). IsPartRead c.args.session c.args.view.now c.args.left p r) (sym c.in-Create.is)
    (subst (λ (t : ℤ × Bytes × List Acl × ℤ). IsPartRead t.0 c.args.view.now c.args.left (parts.Create t.1 c.in-Create.content t.2 t.3) r) (λ i. (session i, c.as_slice.ensures i, c.as_slice-in-Create.ensures i, flags i)) (is c.in-Create.content))) c.read_create.ensures

pub returns-in-Delete : goal.returns-in-Delete
returns-in-Delete c =
    let fits : SFits w32 c.in-Delete.version = search rules in
    let version = to_z-of_z w32 _ fits in
    IfOk-weaker c.read_delete.result _ _ (λ r is. subst (λ (p : Part). IsPartRead c.args.session c.args.view.now c.args.left p r) (sym c.in-Delete.is)
    (subst (λ (t : Bytes × ℤ). IsPartRead c.args.session c.args.view.now c.args.left (parts.Delete t.0 t.1) r) (λ i. (c.as_slice-in-Delete.ensures i, version i)) (is c.args.session))) c.read_delete.ensures

pub returns-in-SetData : goal.returns-in-SetData
returns-in-SetData c =
    let fits : SFits w32 c.in-SetData.version = search rules in
    let version = to_z-of_z w32 _ fits in
    IfOk-weaker c.read_set.result _ _ (λ r is. subst (λ (p : Part). IsPartRead c.args.session c.args.view.now c.args.left p r) (sym c.in-SetData.is)
    (subst (λ (t : Bytes × ℤ). IsPartRead c.args.session c.args.view.now c.args.left (parts.SetData t.0 c.in-SetData.content t.1) r) (λ i. (c.as_slice-in-SetData.ensures i, version i)) (is c.args.session c.in-SetData.content))) c.read_set.ensures

pub returns-in-Check : goal.returns-in-Check
returns-in-Check c =
    let fits : SFits w32 c.in-Check.version = search rules in
    let version = to_z-of_z w32 _ fits in
    IfOk-weaker c.read_check.result _ _ (λ r is. subst (λ (p : Part). IsPartRead c.args.session c.args.view.now c.args.left p r) (sym c.in-Check.is)
    (subst (λ (t : Bytes × ℤ). IsPartRead c.args.session c.args.view.now c.args.left (parts.Check t.0 t.1) r) (λ i. (c.as_slice-in-Check.ensures i, version i)) (is c.args.session))) c.read_check.ensures
