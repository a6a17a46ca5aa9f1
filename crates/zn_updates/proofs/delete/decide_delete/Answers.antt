-- The decision is by the records that were seen, or by the form.
use Rattle.std.proofs.Common.{◌≡◌, ℤ, refl, inl, inr, sym, subst, w32, w64, rules}
use Rattle.std.specs.Prelude.{Option, Some, None, IfSome}
use Rattle.std.proofs.lemmas.Int.{to_z-of_z}
use Rattle.std.proofs.lemmas.Result.{IfOk-weaker}
use mir.Val.{SFits}
use Rattle.zk_model.specs.Codes.{bad_arguments}
use Rattle.zk_model.specs.Paths.{parent}
use Rattle.zk_model.specs.declared.request.Request.TheVariants as req
use Rattle.zn_layout.specs.Keys.{DataKey, CountsKey}
use Rattle.zn_view.specs.Lookups.{HasSeen, sees}
use Rattle.zx_base.specs.Maps.{Bytes}
use Rattle.zn_updates.specs.Deciding.{IsDelete, IsOwnerLookedUp}
use Rattle.zn_updates.specs.Forms.{IsInnerPath}
use Rattle.zn_updates.specs.Making.{IsDataSeen}
use Rattle.zn_updates.specs.declared.seen.SeenData.{SeenData}
use Rattle.zn_updates.proofs.Plans.{refused_form, refused_sound}
use Rattle.zn_updates.proofs.DeleteClauses.{delete_seen, above_seen, owner_looked_up, all_promised, delete_invalid, delete-by_tree}
use Rattle.zn_updates.proofs.Writing.{delete-written}
use Rattle.zn_updates.proofs.delete.decide_delete.Goals as goal

if_some : (o : Option Bytes) (P : Bytes → Type 0) → ((q : Bytes) → o ≡ Some q → P q) → IfSome o P
if_some None P h = tt
if_some (Some q) P h = h q refl

pub delete_below-requires-clause-node : goal.delete_below-requires-clause-node
delete_below-requires-clause-node c =
    let path = subst (λ (o : Option Bytes). IsInnerPath c.args.path.now o) c.in-Some.is c.in_ok-path.ensures in
    subst (λ (p : Bytes). HasSeen c.args.view.now (DataKey p)) (sym path.0) (delete_seen c.args.path.now c.args.version c.args.who c.args.view.now (DataKey c.args.path.now) path.1 c.requires.whole (inl refl))

pub delete_below-requires-clause-counts : goal.delete_below-requires-clause-counts
delete_below-requires-clause-counts c =
    let path = subst (λ (o : Option Bytes). IsInnerPath c.args.path.now o) c.in-Some.is c.in_ok-path.ensures in
    subst (λ (p : Bytes). HasSeen c.args.view.now (CountsKey p)) (sym path.0) (delete_seen c.args.path.now c.args.version c.args.who c.args.view.now (CountsKey c.args.path.now) path.1 c.requires.whole (inr (inl refl)))

pub delete_below-requires-clause-above : goal.delete_below-requires-clause-above
delete_below-requires-clause-above c =
    let path = subst (λ (o : Option Bytes). IsInnerPath c.args.path.now o) c.in-Some.is c.in_ok-path.ensures in
    subst (λ (p : Bytes). IfSome (parent p) (λ q. HasSeen c.args.view.now (CountsKey q))) (sym path.0)
    (if_some (parent c.args.path.now) (λ q. HasSeen c.args.view.now (CountsKey q)) (above_seen c.args.path.now c.args.version c.args.who c.args.view.now path.1 c.requires.whole))

pub delete_below-requires-clause-owner : goal.delete_below-requires-clause-owner
delete_below-requires-clause-owner c =
    let path = subst (λ (o : Option Bytes). IsInnerPath c.args.path.now o) c.in-Some.is c.in_ok-path.ensures in
    subst (λ (p : Bytes). (x : Option SeenData) → IsDataSeen (sees c.args.view.now (DataKey p)) x → IsOwnerLookedUp c.args.view.now x) (sym path.0)
    (owner_looked_up c.args.path.now c.args.version c.args.who c.args.view.now path.1 c.requires.whole)

pub returns-in-Some-clause-form : goal.returns-in-Some-clause-form
returns-in-Some-clause-form c =
    let path = subst (λ (o : Option Bytes). IsInnerPath c.args.path.now o) c.in-Some.is c.in_ok-path.ensures in
    let fits : SFits w32 c.args.version = search rules in
    let session : SFits w64 c.args.who.session = search rules in
    IfOk-weaker c.delete_below.result _ _ (λ d is.
    (all_promised c.args.path.now c.args.version c.args.who c.args.view.now c.args.now path.1 c.requires.time c.requires.real c.requires.whole d (parent c.args.path.now) refl
    (subst (λ (t : Bytes × ℤ × ℤ). IsDelete c.args.view.now t.0 t.1 t.2 (parent t.0) d) (λ i. (path.0 i, to_z-of_z w32 _ fits i, to_z-of_z w64 _ session i)) is)).0) c.delete_below.ensures

pub returns-in-Some-clause-sound : goal.returns-in-Some-clause-sound
returns-in-Some-clause-sound c =
    let path = subst (λ (o : Option Bytes). IsInnerPath c.args.path.now o) c.in-Some.is c.in_ok-path.ensures in
    let fits : SFits w32 c.args.version = search rules in
    let session : SFits w64 c.args.who.session = search rules in
    IfOk-weaker c.delete_below.result _ _ (λ d is.
    (all_promised c.args.path.now c.args.version c.args.who c.args.view.now c.args.now path.1 c.requires.time c.requires.real c.requires.whole d (parent c.args.path.now) refl
    (subst (λ (t : Bytes × ℤ × ℤ). IsDelete c.args.view.now t.0 t.1 t.2 (parent t.0) d) (λ i. (path.0 i, to_z-of_z w32 _ fits i, to_z-of_z w64 _ session i)) is)).1) c.delete_below.ensures

pub returns-in-Some-clause-plan : goal.returns-in-Some-clause-plan
returns-in-Some-clause-plan c =
    let path = subst (λ (o : Option Bytes). IsInnerPath c.args.path.now o) c.in-Some.is c.in_ok-path.ensures in
    let fits : SFits w32 c.args.version = search rules in
    let session : SFits w64 c.args.who.session = search rules in
    IfOk-weaker c.delete_below.result _ _ (λ d is.
    (all_promised c.args.path.now c.args.version c.args.who c.args.view.now c.args.now path.1 c.requires.time c.requires.real c.requires.whole d (parent c.args.path.now) refl
    (subst (λ (t : Bytes × ℤ × ℤ). IsDelete c.args.view.now t.0 t.1 t.2 (parent t.0) d) (λ i. (path.0 i, to_z-of_z w32 _ fits i, to_z-of_z w64 _ session i)) is)).2) c.delete_below.ensures

pub returns-in-None-clause-form : goal.returns-in-None-clause-form
returns-in-None-clause-form c =
    refused_form (req.Delete c.args.path.now c.args.version) bad_arguments
    (delete_invalid c.args.path.now c.args.version (subst (λ (o : Option Bytes). IsInnerPath c.args.path.now o) c.in-None.is c.in_ok-path.ensures)) c.refused.result c.refused.ensures

pub returns-in-None-clause-sound : goal.returns-in-None-clause-sound
returns-in-None-clause-sound c =
    refused_sound (req.Delete c.args.path.now c.args.version) bad_arguments
    (delete_invalid c.args.path.now c.args.version (subst (λ (o : Option Bytes). IsInnerPath c.args.path.now o) c.in-None.is c.in_ok-path.ensures)) c.args.who c.args.view.now c.refused.result

pub returns-in-Some-clause-tree : goal.returns-in-Some-clause-tree
returns-in-Some-clause-tree c =
    let path = subst (λ (o : Option Bytes). IsInnerPath c.args.path.now o) c.in-Some.is c.in_ok-path.ensures in
    let fits : SFits w32 c.args.version = search rules in
    let session : SFits w64 c.args.who.session = search rules in
    IfOk-weaker c.delete_below.result _ _ (λ d is.
    delete-by_tree c.args.view.now c.args.path.now c.args.version c.args.who.session (parent c.args.path.now) d
    (subst (λ (t : Bytes × ℤ × ℤ). IsDelete c.args.view.now t.0 t.1 t.2 (parent t.0) d) (λ i. (path.0 i, to_z-of_z w32 _ fits i, to_z-of_z w64 _ session i)) is)) c.delete_below.ensures

pub returns-in-Some-clause-writes : goal.returns-in-Some-clause-writes
returns-in-Some-clause-writes c =
    let path = subst (λ (o : Option Bytes). IsInnerPath c.args.path.now o) c.in-Some.is c.in_ok-path.ensures in
    let fits : SFits w32 c.args.version = search rules in
    let session : SFits w64 c.args.who.session = search rules in
    IfOk-weaker c.delete_below.result _ _ (λ d is.
    delete-written c.args.who c.args.view.now c.args.path.now c.args.version d (parent c.args.path.now) refl
    (subst (λ (t : Bytes × ℤ × ℤ). IsDelete c.args.view.now t.0 t.1 t.2 (parent t.0) d) (λ i. (path.0 i, to_z-of_z w32 _ fits i, to_z-of_z w64 _ session i)) is)) c.delete_below.ensures
