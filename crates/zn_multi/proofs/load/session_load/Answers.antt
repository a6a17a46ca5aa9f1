use Rattle.std.proofs.Common.{◌≡◌, ℤ, ◌+◌, List, length, refl, subst, w64, rules, to_z, of_z}
use Rattle.std.specs.Prelude.{Option, Some, sum_by}
use Rattle.std.proofs.lemmas.Int.{to_z-of_z}
use mir.Val.{SFits}
use Rattle.zk_model.specs.Loads.{within}
use Rattle.zn_view.specs.Seen.{View}
use Rattle.zx_base.specs.Maps.{Bytes}
use Rattle.zn_layout.specs.declared.record.SessionRec.{SessionRec}
use Rattle.zn_updates.specs.Layers.{layered}
use Rattle.zn_updates.specs.Parts.{IfNodes}
use Rattle.zn_multi.proofs.load.session_load.Goals as goal

pub returns-in-Some : goal.returns-in-Some
returns-in-Some c =
    let fits : SFits w64 c.args.session = search rules in
    let is : IfNodes c.args.view.now c.args.session (Some c.in-Some.nodes) =
    subst (λ (o : Option SessionRec). IfNodes c.args.view.now c.args.session o) c.in-Some.is
    (subst (λ (z : ℤ). IfNodes c.args.view.now z c.in_ok-nodes.field-0) (to_z-of_z w64 _ fits)
    (subst (λ (v : View). IfNodes (layered v c.args.view.now) (to_z w64 (of_z w64 c.args.session)) c.in_ok-nodes.field-0) c.empty.ensures c.in_ok-nodes.ensures.is)) in
    (sum_by length c.in-Some.nodes.paths, (Some c.in-Some.nodes, (λ _. is), refl), λ n before. subst (λ (l : List Bytes). c.path_load.result ≡ within (n + sum_by length l)) c.as_slice.ensures (c.path_load.ensures n before))
