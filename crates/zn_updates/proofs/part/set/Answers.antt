use Rattle.std.proofs.Common.{◌≡◌, ◌∙◌, false, ap, subst, w32, rules, arith}
use Rattle.std.specs.Prelude.{Option}
use Rattle.std.proofs.lemmas.Grind.{common_steps}
use Rattle.std.proofs.lemmas.Int.{to_z-of_z}
use Rattle.std.proofs.lemmas.Result.{IfOk-weaker}
use mir.Val.{SFits}
use Rattle.zk_model.specs.Codes.{bad_arguments}
use Rattle.zk_model.specs.declared.request.Part.TheVariants as parts
use Rattle.zx_base.specs.Maps.{Bytes}
use Rattle.zn_updates.specs.declared.seen.SeenData.{SeenData}
use Rattle.zn_updates.specs.Choices.{set_data_choice}
use Rattle.zk_model.specs.PathFaults.{IsPathOf}
use Rattle.zn_updates.specs.Layers.{layered}
use Rattle.zn_updates.specs.Making.{chosen_of}
use Rattle.zn_updates.specs.Parts.{IfCounts, IfData}
use Rattle.zn_updates.proofs.Forms.{set_refusal}
use Rattle.zn_updates.proofs.PartChoices.{refused_part, set_part}
use Rattle.zn_updates.proofs.part.set.Goals as goal

pub returns-in_ok-counts-in-Some : goal.returns-in_ok-counts-in-Some
returns-in_ok-counts-in-Some c = λ who.
    let path = subst (λ (o : Option Bytes). IsPathOf false c.args.path.now o) c.in-Some.is c.in_ok-path.ensures in
    let fits : SFits w32 c.args.version = search rules in
    let version = to_z-of_z w32 _ fits in
    IfOk-weaker c.choose_set_data.result _ _ (λ d is.
    set_part c.args.path.now c.args.content.now c.args.version who c.args.now (layered c.args.over.now c.args.view.now) path.1 c.requires.short c.requires.time c.in_ok-node-in-Some.node c.in_ok-counts-in-Some.counts
    (subst (λ (p : Bytes). IfData (layered c.args.over.now c.args.view.now) p c.in_ok-node-in-Some.node) path.0 c.in_ok-node-in-Some.ensures.is)
    (subst (λ (t : Bytes × Option SeenData). IfCounts (layered c.args.over.now c.args.view.now) t.0 t.1 c.in_ok-counts-in-Some.counts) (λ i. (path.0 i, c.as_ref.ensures.value i)) c.in_ok-counts-in-Some.ensures.is)
    c.in_ok-node-in-Some.ensures.within d
    (let made : d ≡ chosen_of (set_data_choice c.in-Some.path c.args.content.now c.args.version c.args.now c.in_ok-node-in-Some.node c.in_ok-counts-in-Some.counts) = first_of (search rules, grind (arith, common_steps, is, version)) in
    made ∙ ap (λ (p : Bytes). chosen_of (set_data_choice p c.args.content.now c.args.version c.args.now c.in_ok-node-in-Some.node c.in_ok-counts-in-Some.counts)) path.0)) c.choose_set_data.ensures

pub returns-in-None : goal.returns-in-None
returns-in-None c = λ who.
    let path = subst (λ (o : Option Bytes). IsPathOf false c.args.path.now o) c.in-None.is c.in_ok-path.ensures in
    refused_part (parts.SetData c.args.path.now c.args.content.now c.args.version) who c.args.now (layered c.args.over.now c.args.view.now) bad_arguments (set_refusal c.args.path.now c.args.content.now c.args.version _ path)
