use Rattle.std.proofs.Common.{◌≡◌, ◌∙◌, ℤ, Option, ap, subst, w64, rules, arith, true}
use Rattle.std.proofs.lemmas.Grind.{common_steps}
use Rattle.std.proofs.lemmas.Int.{to_z-of_z}
use Rattle.std.proofs.lemmas.Result.{IfOk-weaker}
use mir.Val.{SFits}
use Rattle.zx_base.specs.Maps.{Bytes}
use Rattle.zn_layout.specs.Keys.{DataKey}
use Rattle.zn_view.specs.Lookups.{sees}
use Rattle.zn_view.specs.Seen.{View}
use Rattle.zn_updates.specs.declared.seen.SeenData.{SeenData}
use Rattle.zn_updates.specs.Choices.{create_choice}
use Rattle.zn_updates.specs.Deciding.{path_for}
use Rattle.zn_updates.specs.Layers.{layered}
use Rattle.zn_updates.specs.Making.{chosen_of, has_found}
use Rattle.zn_updates.specs.Parts.{IfCounts, IfNodes}
use Rattle.zn_updates.proofs.part.created_below.Goals as goal

pub returns : goal.returns
returns c =
    let fits : SFits w64 c.args.new.now.session = search rules in
    let v : View = layered c.args.over.now c.args.view.now in
    let path : c.in_ok-path.path ≡ path_for c.args.new.now.sequential c.args.new.now.path.now c.in_ok-above.above = c.in_ok-path.ensures in
    let taken : c.in_ok-taken.taken ≡ has_found (sees v (DataKey (path_for c.args.new.now.sequential c.args.new.now.path.now c.in_ok-above.above))) = c.in_ok-taken.ensures ∙ ap (λ (q : Bytes). has_found (sees v (DataKey q))) path in
    let paths : c.args.new.now.ephemeral ≡ true → IfNodes v c.args.new.now.session c.in_ok-nodes.nodes = subst (λ (z : ℤ). c.args.new.now.ephemeral ≡ true → IfNodes v z c.in_ok-nodes.nodes) (to_z-of_z w64 _ fits) c.in_ok-nodes.ensures.is in
    IfOk-weaker c.choose_create.result _ _ (λ d is. record {
      up = c.in_ok-up.up;
      above = c.in_ok-above.above;
      nodes = c.in_ok-nodes.nodes;
      up_is = c.in_ok-up.ensures.is;
      above_is = subst (λ (o : Option SeenData). IfCounts v c.args.parent.now o c.in_ok-above.above) c.as_ref.ensures.value c.in_ok-above.ensures.is;
      above_within = c.in_ok-above.ensures.within;
      nodes_are = paths;
      nodes_within = c.in_ok-nodes.ensures.within;
      is =
          let made : d ≡ chosen_of (create_choice c.in_ok-path.path c.args.parent.now c.args.new.now.content.now c.args.new.now.time c.args.new.now.ephemeral c.args.new.now.session c.in_ok-up.up c.in_ok-above.above c.in_ok-taken.taken c.in_ok-nodes.nodes) = first_of (search rules, grind (arith, common_steps, is, to_z-of_z w64 _ fits)) in
          made ∙ (λ i. chosen_of (create_choice (path i) c.args.parent.now c.args.new.now.content.now c.args.new.now.time c.args.new.now.ephemeral c.args.new.now.session c.in_ok-up.up c.in_ok-above.above (taken i) c.in_ok-nodes.nodes));
    }) c.choose_create.ensures
