-- The decision is by the records that were seen, or by the form.
use Rattle.std.proofs.Common.{ℤ, false, refl, inl, inr, sym, subst, w32, w64, rules}
use Rattle.std.specs.Prelude.{Option}
use Rattle.std.proofs.lemmas.Int.{to_z-of_z}
use Rattle.std.proofs.lemmas.Result.{IfOk-weaker}
use mir.Val.{SFits}
use Rattle.zk_model.specs.Codes.{bad_arguments}
use Rattle.zk_model.specs.declared.request.Request.TheVariants as req
use Rattle.zn_layout.specs.Keys.{DataKey, CountsKey}
use Rattle.zn_view.specs.Lookups.{HasSeen}
use Rattle.zx_base.specs.Maps.{Bytes}
use Rattle.zn_updates.specs.Deciding.{IsSetData}
use Rattle.zk_model.specs.PathFaults.{IsPathOf}
use Rattle.zn_updates.proofs.Plans.{refused_form, refused_sound}
use Rattle.zn_updates.proofs.SetDataClauses.{set_seen, set_by_form, set_by_sound, set_planned, set_invalid, set_data-by_tree}
use Rattle.zn_updates.proofs.Writing.{set_data-written}
use Rattle.zn_updates.proofs.set_data.decide_set_data.Goals as goal

pub set_data_at-requires-clause-node : goal.set_data_at-requires-clause-node
set_data_at-requires-clause-node c =
    let path = subst (λ (o : Option Bytes). IsPathOf false c.args.path.now o) c.in-Some.is c.in_ok-path.ensures in
    subst (λ (p : Bytes). HasSeen c.args.view.now (DataKey p)) (sym path.0) (set_seen c.args.path.now c.args.content.now c.args.version c.args.who c.args.view.now (DataKey c.args.path.now) path.1 c.requires.whole (inr (inr (inl refl))))

pub set_data_at-requires-clause-counts : goal.set_data_at-requires-clause-counts
set_data_at-requires-clause-counts c =
    let path = subst (λ (o : Option Bytes). IsPathOf false c.args.path.now o) c.in-Some.is c.in_ok-path.ensures in
    subst (λ (p : Bytes). HasSeen c.args.view.now (CountsKey p)) (sym path.0) (set_seen c.args.path.now c.args.content.now c.args.version c.args.who c.args.view.now (CountsKey c.args.path.now) path.1 c.requires.whole (inr (inr (inr (inl refl)))))

pub returns-in-Some-clause-form : goal.returns-in-Some-clause-form
returns-in-Some-clause-form c =
    let path = subst (λ (o : Option Bytes). IsPathOf false c.args.path.now o) c.in-Some.is c.in_ok-path.ensures in
    let fits : SFits w32 c.args.version = search rules in
    let session : SFits w64 c.args.who.session = search rules in
    IfOk-weaker c.set_data_at.result _ _ (λ d is.
    set_by_form c.args.path.now c.args.content.now c.args.version c.args.who c.args.view.now c.args.now path.1 c.requires.time c.requires.short c.requires.real d
    (subst (λ (t : Bytes × ℤ × ℤ). IsSetData c.args.view.now t.0 c.args.content.now t.1 c.args.now t.2 d) (λ i. (path.0 i, to_z-of_z w32 _ fits i, to_z-of_z w64 _ session i)) is)) c.set_data_at.ensures

pub returns-in-Some-clause-sound : goal.returns-in-Some-clause-sound
returns-in-Some-clause-sound c =
    let path = subst (λ (o : Option Bytes). IsPathOf false c.args.path.now o) c.in-Some.is c.in_ok-path.ensures in
    let fits : SFits w32 c.args.version = search rules in
    let session : SFits w64 c.args.who.session = search rules in
    IfOk-weaker c.set_data_at.result _ _ (λ d is.
    set_by_sound c.args.path.now c.args.content.now c.args.version c.args.who c.args.view.now c.args.now path.1 c.requires.time c.requires.short c.requires.real d
    (subst (λ (t : Bytes × ℤ × ℤ). IsSetData c.args.view.now t.0 c.args.content.now t.1 c.args.now t.2 d) (λ i. (path.0 i, to_z-of_z w32 _ fits i, to_z-of_z w64 _ session i)) is)) c.set_data_at.ensures

pub returns-in-Some-clause-plan : goal.returns-in-Some-clause-plan
returns-in-Some-clause-plan c =
    let path = subst (λ (o : Option Bytes). IsPathOf false c.args.path.now o) c.in-Some.is c.in_ok-path.ensures in
    let fits : SFits w32 c.args.version = search rules in
    let session : SFits w64 c.args.who.session = search rules in
    IfOk-weaker c.set_data_at.result _ _ (λ d is.
    set_planned c.args.path.now c.args.content.now c.args.version c.args.who c.args.view.now c.args.now path.1 c.requires.time c.requires.short c.requires.real d
    (subst (λ (t : Bytes × ℤ × ℤ). IsSetData c.args.view.now t.0 c.args.content.now t.1 c.args.now t.2 d) (λ i. (path.0 i, to_z-of_z w32 _ fits i, to_z-of_z w64 _ session i)) is) c.requires.whole) c.set_data_at.ensures

pub returns-in-None-clause-form : goal.returns-in-None-clause-form
returns-in-None-clause-form c =
    refused_form (req.SetData c.args.path.now c.args.content.now c.args.version) bad_arguments
    (set_invalid c.args.path.now c.args.content.now c.args.version (subst (λ (o : Option Bytes). IsPathOf false c.args.path.now o) c.in-None.is c.in_ok-path.ensures)) c.refused.result c.refused.ensures

pub returns-in-None-clause-sound : goal.returns-in-None-clause-sound
returns-in-None-clause-sound c =
    refused_sound (req.SetData c.args.path.now c.args.content.now c.args.version) bad_arguments
    (set_invalid c.args.path.now c.args.content.now c.args.version (subst (λ (o : Option Bytes). IsPathOf false c.args.path.now o) c.in-None.is c.in_ok-path.ensures)) c.args.who c.args.view.now c.refused.result

pub returns-in-Some-clause-tree : goal.returns-in-Some-clause-tree
returns-in-Some-clause-tree c =
    let path = subst (λ (o : Option Bytes). IsPathOf false c.args.path.now o) c.in-Some.is c.in_ok-path.ensures in
    let fits : SFits w32 c.args.version = search rules in
    let session : SFits w64 c.args.who.session = search rules in
    IfOk-weaker c.set_data_at.result _ _ (λ d is.
    set_data-by_tree c.args.view.now c.args.path.now c.args.content.now c.args.version c.args.now c.args.who.session d
    (subst (λ (t : Bytes × ℤ × ℤ). IsSetData c.args.view.now t.0 c.args.content.now t.1 c.args.now t.2 d) (λ i. (path.0 i, to_z-of_z w32 _ fits i, to_z-of_z w64 _ session i)) is)) c.set_data_at.ensures

pub returns-in-Some-clause-writes : goal.returns-in-Some-clause-writes
returns-in-Some-clause-writes c =
    let path = subst (λ (o : Option Bytes). IsPathOf false c.args.path.now o) c.in-Some.is c.in_ok-path.ensures in
    let fits : SFits w32 c.args.version = search rules in
    let session : SFits w64 c.args.who.session = search rules in
    IfOk-weaker c.set_data_at.result _ _ (λ d is.
    set_data-written c.args.who c.args.view.now c.args.path.now c.args.content.now c.args.version c.args.now d
    (subst (λ (t : Bytes × ℤ × ℤ). IsSetData c.args.view.now t.0 c.args.content.now t.1 c.args.now t.2 d) (λ i. (path.0 i, to_z-of_z w32 _ fits i, to_z-of_z w64 _ session i)) is)) c.set_data_at.ensures
