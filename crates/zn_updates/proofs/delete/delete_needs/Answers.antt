-- The keys of a valid path that isn't the root's, or none.
use Rattle.std.proofs.Common.{◌≡◌, ◌≤◌, ◌<◌, ◌∙◌, true, Bool, refl, length, sym, ap, subst, w64, rules, arith}
use Rattle.std.specs.Prelude.{Option, Some, None, map, ◌&&◌, IfSome, false}
use Rattle.std.proofs.lemmas.Int.{to_z-of_z}
use Rattle.std.proofs.lemmas.Result.{IfOk-weaker}
use mir.Val.{SFits}
use Rattle.zk_model.specs.Codes.{bad_arguments}
use Rattle.zk_model.specs.Limits.{max_path}
use Rattle.zk_model.specs.Paths.{parent}
use Rattle.zk_model.specs.declared.request.Request.TheVariants as req
use Rattle.zn_layout.proofs.Paths.{path_short}
use Rattle.zn_layout.specs.Keys.{DataKey, key_bytes}
use Rattle.zn_view.specs.Lookups.{sees}
use Rattle.zx_base.specs.Maps.{Bytes}
use Rattle.zn_updates.specs.Forms.{IsInnerPath}
use Rattle.zn_view.specs.Lacking.{lacking}
use Rattle.zn_updates.specs.KeysRead.{delete_keys, IsOwnerSeen}
use Rattle.zn_updates.proofs.Plans.{refused_needs}
use Rattle.zn_updates.proofs.DeleteClauses.{delete_needs, delete_invalid}
use Rattle.zn_updates.proofs.delete.delete_needs.Goals as goal

first : (a b : Bool) → (a && b) ≡ true → a ≡ true
first true b h = refl
first false b h = absurd (cc)

shorter : (o : Option Bytes) (p : Bytes) → IfSome o (λ q. length q < length p) → length p ≤ max_path → IfSome o (λ q. length q ≤ max_path)
shorter None p h short = tt
shorter (Some q) p h short = omega (arith, h, short)

pub delete_wants-requires-clause-short : goal.delete_wants-requires-clause-short
delete_wants-requires-clause-short c =
    let path = subst (λ (o : Option Bytes). IsInnerPath c.args.path.now o) c.in-Some.is c.in_ok-path.ensures in
    subst (λ (p : Bytes). length p ≤ max_path) (sym path.0) (path_short c.args.path.now (first _ _ path.1))

pub delete_wants-requires-clause-parent : goal.delete_wants-requires-clause-parent
delete_wants-requires-clause-parent c =
    let path = subst (λ (o : Option Bytes). IsInnerPath c.args.path.now o) c.in-Some.is c.in_ok-path.ensures in
    shorter _ c.in-Some.path c.in_ok-parent-in-Some.ensures.shorter (subst (λ (p : Bytes). length p ≤ max_path) (sym path.0) (path_short c.args.path.now (first _ _ path.1)))

pub returns-in_ok-parent-in-Some : goal.returns-in_ok-parent-in-Some
returns-in_ok-parent-in-Some c =
    let path = subst (λ (o : Option Bytes). IsInnerPath c.args.path.now o) c.in-Some.is c.in_ok-path.ensures in
    let fits : SFits w64 c.args.who.session = search rules in
    IfOk-weaker c.delete_wants.result _ _ (λ ws is. λ version.
    delete_needs c.args.path.now version c.args.who c.args.view.now ws c.in_ok-parent-in-Some.field-0 is.0 path.1 (c.in_ok-parent-in-Some.ensures.parent ∙ ap parent path.0)
    (subst (λ (p : Bytes). IsOwnerSeen (sees c.args.view.now (DataKey p)) is.0) path.0 is.1)
    (is.2 ∙ (λ i. lacking c.args.view.now (map key_bytes (delete_keys (path.0 i) c.in_ok-parent-in-Some.field-0 (to_z-of_z w64 _ fits i) is.0))))) c.delete_wants.ensures

pub returns-in-None : goal.returns-in-None
returns-in-None c = λ version.
    refused_needs (req.Delete c.args.path.now version) bad_arguments
    (delete_invalid c.args.path.now version (subst (λ (o : Option Bytes). IsInnerPath c.args.path.now o) c.in-None.is c.in_ok-path.ensures)) c.args.who c.args.view.now c.new.result c.new.ensures
