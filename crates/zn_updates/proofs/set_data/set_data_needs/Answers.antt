-- The keys of a valid path, or none.
use Rattle.std.proofs.Common.{◌≤◌, ◌∙◌, false, length, sym, subst, w64, rules}
use Rattle.std.specs.Prelude.{Option, map}
use Rattle.std.proofs.lemmas.Int.{to_z-of_z}
use Rattle.std.proofs.lemmas.Result.{IfOk-weaker}
use mir.Val.{SFits}
use Rattle.zk_model.specs.Codes.{bad_arguments}
use Rattle.zk_model.specs.Limits.{max_path}
use Rattle.zk_model.specs.declared.request.Request.TheVariants as req
use Rattle.zn_layout.proofs.Paths.{path_short}
use Rattle.zx_base.specs.Maps.{Bytes}
use Rattle.zk_model.specs.PathFaults.{IsPathOf}
use Rattle.zn_view.specs.Lacking.{lacking}
use Rattle.zn_layout.specs.Keys.{key_bytes}
use Rattle.zn_updates.specs.KeysRead.{set_data_keys}
use Rattle.zn_updates.proofs.Plans.{refused_needs}
use Rattle.zn_updates.proofs.SetDataClauses.{set_needs, set_invalid}
use Rattle.zn_updates.proofs.set_data.set_data_needs.Goals as goal

pub set_data_wants-requires-clause-short : goal.set_data_wants-requires-clause-short
set_data_wants-requires-clause-short c =
    let path = subst (λ (o : Option Bytes). IsPathOf false c.args.path.now o) c.in-Some.is c.in_ok-path.ensures in
    subst (λ (p : Bytes). length p ≤ max_path) (sym path.0) (path_short c.args.path.now path.1)

pub returns-in-Some : goal.returns-in-Some
returns-in-Some c =
    let path = subst (λ (o : Option Bytes). IsPathOf false c.args.path.now o) c.in-Some.is c.in_ok-path.ensures in
    let fits : SFits w64 c.args.who.session = search rules in
    IfOk-weaker c.set_data_wants.result _ _ (λ ws is. λ content version.
    set_needs c.args.path.now content version c.args.who c.args.view.now ws path.1
    (is ∙ (λ i. lacking c.args.view.now (map key_bytes (set_data_keys (path.0 i) (to_z-of_z w64 _ fits i)))))) c.set_data_wants.ensures

pub returns-in-None : goal.returns-in-None
returns-in-None c = λ content version.
    refused_needs (req.SetData c.args.path.now content version) bad_arguments
    (set_invalid c.args.path.now content version (subst (λ (o : Option Bytes). IsPathOf false c.args.path.now o) c.in-None.is c.in_ok-path.ensures)) c.args.who c.args.view.now c.new.result c.new.ensures
