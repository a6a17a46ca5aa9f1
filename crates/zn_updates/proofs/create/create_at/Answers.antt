-- The paths that are told are valid, and the keys that are guarded are those that were looked up.
use Rattle.std.proofs.Common.{◌≡◌, ◌∙◌, ℤ, List, Option, Some, ap, subst, w64, rules, arith}
use Rattle.std.specs.Prelude.{IsTrue, map}
use Rattle.std.proofs.lemmas.Grind.{common_steps}
use Rattle.std.proofs.lemmas.Int.{to_z-of_z}
use Rattle.std.proofs.lemmas.Result.{IfOk-weaker}
use mir.Val.{SFits}
use Rattle.zk_model.specs.Paths.{is_path}
use Rattle.zn_layout.proofs.Paths.{path_short}
use Rattle.zn_layout.specs.Keys.{CountsKey, DataKey, key_bytes}
use Rattle.zn_layout.specs.Records.{IsHeadRec}
use Rattle.zn_view.specs.Asks.{narrowed}
use Rattle.zn_view.specs.Lookups.{sees}
use Rattle.zx_base.specs.Maps.{Bytes}
use Rattle.zn_updates.specs.declared.seen.SeenData.{SeenData}
use Rattle.zn_updates.specs.Choices.{create_choice}
use Rattle.zn_updates.specs.Deciding.{creates_seen, decision_of, path_for, AreOwnNodes}
use Rattle.zn_updates.specs.KeysRead.{create_keys}
use Rattle.zn_updates.specs.Making.{chosen_of, has_found, IsCountsSeen}
use Rattle.zn_updates.proofs.Clauses.{if_made}
use Rattle.zn_updates.proofs.CreateClauses.{create_bounds}
use Rattle.zn_updates.proofs.create.create_at.Goals as goal

pub create_keys-requires-clause-parent : goal.create_keys-requires-clause-parent
create_keys-requires-clause-parent c = path_short c.args.parent.now c.requires.parent

pub decision-requires : goal.decision-requires
decision-requires c =
    let valid : IsTrue (is_path c.in_ok-path.path) = search rules in
    if_made IsHeadRec c.in_ok-chosen.chosen _ c.in_ok-chosen.ensures (create_bounds c.in_ok-path.path c.args.parent.now c.args.new.now.content.now c.args.new.now.time c.args.new.now.ephemeral _ _ _ _ _ valid c.requires.parent)

pub returns : goal.returns
returns c =
    let fits : SFits w64 c.args.new.now.session = search rules in
    let creates : c.creates_of.result ≡ creates_seen c.in_ok-above.above = c.creates_of.ensures in
    let keys : c.as_slice.result.now ≡ map key_bytes (create_keys c.args.new.now.sequential c.args.new.now.ephemeral c.args.new.now.path.now (Some c.args.parent.now) c.args.new.now.session (creates_seen c.in_ok-above.above)) =
    first_of (search rules, grind (arith, common_steps, creates, to_z-of_z w64 _ fits)) in
    let path : c.in_ok-path.path ≡ path_for c.args.new.now.sequential c.args.new.now.path.now c.in_ok-above.above = c.in_ok-path.ensures in
    let taken : c.in_ok-taken.taken ≡ has_found (sees c.args.view.now (DataKey (path_for c.args.new.now.sequential c.args.new.now.path.now c.in_ok-above.above))) = c.in_ok-taken.ensures ∙ ap (λ (q : Bytes). has_found (sees c.args.view.now (DataKey q))) path in
    let made : c.in_ok-chosen.chosen ≡ chosen_of (create_choice c.in_ok-path.path c.args.parent.now c.args.new.now.content.now c.args.new.now.time c.args.new.now.ephemeral c.args.new.now.session c.in_ok-up.up c.in_ok-above.above c.in_ok-taken.taken c.in_ok-nodes.nodes) =
    first_of (search rules, grind (arith, common_steps)) in
    let chosen = made ∙ (λ i. chosen_of (create_choice (path i) c.args.parent.now c.args.new.now.content.now c.args.new.now.time c.args.new.now.ephemeral c.args.new.now.session c.in_ok-up.up c.in_ok-above.above (taken i) c.in_ok-nodes.nodes)) in
    IfOk-weaker c.decision.result _ _ (λ d is. (
      c.in_ok-up.up,
      c.in_ok-above.above,
      c.in_ok-nodes.nodes,
      c.in_ok-up.ensures.is,
      subst (λ (o : Option SeenData). IsCountsSeen o (sees c.args.view.now (CountsKey c.args.parent.now)) c.in_ok-above.above) c.as_ref.ensures.value c.in_ok-above.ensures.is,
      subst (λ (z : ℤ). AreOwnNodes c.args.view.now c.args.new.now.ephemeral z c.in_ok-nodes.nodes) (to_z-of_z w64 _ fits) c.in_ok-nodes.ensures.is,
      is _ chosen ∙ ap (λ (ks : List Bytes). decision_of (narrowed c.args.view.now ks) (create_choice (path_for c.args.new.now.sequential c.args.new.now.path.now c.in_ok-above.above) c.args.parent.now c.args.new.now.content.now c.args.new.now.time c.args.new.now.ephemeral c.args.new.now.session c.in_ok-up.up c.in_ok-above.above
          (has_found (sees c.args.view.now (DataKey (path_for c.args.new.now.sequential c.args.new.now.path.now c.in_ok-above.above)))) c.in_ok-nodes.nodes)) keys,
    )) c.decision.ensures
