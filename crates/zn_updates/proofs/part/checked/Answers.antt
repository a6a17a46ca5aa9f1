use Rattle.std.proofs.Common.{◌≡◌, false, subst, w32, rules, arith}
use Rattle.std.specs.Prelude.{Option}
use Rattle.std.proofs.lemmas.Grind.{common_steps}
use Rattle.std.proofs.lemmas.Int.{to_z-of_z}
use mir.Val.{SFits}
use Rattle.zk_model.specs.Codes.{bad_arguments}
use Rattle.zk_model.specs.declared.request.Part.TheVariants as parts
use Rattle.zx_base.specs.Maps.{Bytes}
use Rattle.zk_model.specs.PathFaults.{IsPathOf}
use Rattle.zn_updates.specs.Layers.{layered}
use Rattle.zn_updates.specs.Making.{chosen_of}
use Rattle.zn_updates.specs.Parts.{check_choice, IfData}
use Rattle.zn_updates.proofs.PartChoices.{check_refusal, checked_part, refused_part}
use Rattle.zn_updates.proofs.part.checked.Goals as goal

pub returns-in_ok-node-in-Some : goal.returns-in_ok-node-in-Some
returns-in_ok-node-in-Some c =
    let path = subst (λ (o : Option Bytes). IsPathOf false c.args.path.now o) c.in-Some.is c.in_ok-path.ensures in
    let fits : SFits w32 c.args.version = search rules in
    let version = to_z-of_z w32 _ fits in
    let made : c.choose_check.result ≡ chosen_of (check_choice c.args.version c.in_ok-node-in-Some.node) = first_of (search rules, grind (arith, common_steps, version)) in
    checked_part c.args.path.now c.args.version c.args.who c.args.now (layered c.args.over.now c.args.view.now) path.1 c.in_ok-node-in-Some.node
    (subst (λ (p : Bytes). IfData (layered c.args.over.now c.args.view.now) p c.in_ok-node-in-Some.node) path.0 c.in_ok-node-in-Some.ensures.is) c.choose_check.result made

pub returns-in-None : goal.returns-in-None
returns-in-None c =
    let path = subst (λ (o : Option Bytes). IsPathOf false c.args.path.now o) c.in-None.is c.in_ok-path.ensures in
    refused_part (parts.Check c.args.path.now c.args.version) c.args.who c.args.now (layered c.args.over.now c.args.view.now) bad_arguments (check_refusal c.args.path.now c.args.version _ path)
