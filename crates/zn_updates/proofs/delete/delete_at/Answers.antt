-- The paths that are told are valid, and the keys that are guarded are those that were looked up.
use Rattle.std.proofs.Common.{◌≡◌, ◌∙◌, List, Option, Some, ap, subst, w64, rules, arith}
use Rattle.std.specs.Prelude.{map}
use Rattle.std.proofs.lemmas.Grind.{common_steps}
use Rattle.std.proofs.lemmas.Int.{to_z-of_z}
use Rattle.std.proofs.lemmas.Result.{IfOk-weaker}
use mir.Val.{SFits}
use Rattle.zn_layout.proofs.Paths.{path_short}
use Rattle.zn_layout.specs.Keys.{CountsKey, key_bytes}
use Rattle.zn_layout.specs.Records.{IsHeadRec}
use Rattle.zn_view.specs.Asks.{narrowed}
use Rattle.zn_view.specs.Lookups.{sees}
use Rattle.zx_base.specs.Maps.{Bytes}
use Rattle.zn_updates.specs.declared.seen.SeenData.{SeenData}
use Rattle.zn_updates.specs.Choices.{delete_choice}
use Rattle.zn_updates.specs.Deciding.{decision_of, owner_seen}
use Rattle.zn_updates.specs.KeysRead.{delete_keys}
use Rattle.zn_updates.specs.Making.{chosen_of, IsCountsSeen}
use Rattle.zn_updates.proofs.Clauses.{if_made}
use Rattle.zn_updates.proofs.DeleteClauses.{delete_bounds}
use Rattle.zn_updates.proofs.delete.delete_at.Goals as goal

pub delete_keys-requires-clause-short : goal.delete_keys-requires-clause-short
delete_keys-requires-clause-short c = path_short c.args.path.now c.requires.valid

pub delete_keys-requires-clause-parent : goal.delete_keys-requires-clause-parent
delete_keys-requires-clause-parent c = path_short c.args.parent.now c.requires.parent

pub decision-requires : goal.decision-requires
decision-requires c = if_made IsHeadRec c.in_ok-chosen.chosen _ c.in_ok-chosen.ensures (delete_bounds c.args.path.now _ c.args.parent.now _ _ _ _ c.requires.valid c.requires.parent)

pub returns : goal.returns
returns c =
    let fits : SFits w64 c.args.session = search rules in
    let keys : c.as_slice.result.now ≡ map key_bytes (delete_keys c.args.path.now (Some c.args.parent.now) c.args.session (owner_seen c.in_ok-node.node)) = first_of (search rules, grind (arith, common_steps, to_z-of_z w64 _ fits)) in
    let chosen : c.in_ok-chosen.chosen ≡ chosen_of (delete_choice c.args.path.now c.args.parent.now c.args.version c.in_ok-node.node c.in_ok-counts.counts c.in_ok-above.above c.in_ok-nodes.nodes) = first_of (search rules, grind (arith, common_steps)) in
    IfOk-weaker c.decision.result _ _ (λ d is. (
      c.in_ok-node.node,
      c.in_ok-counts.counts,
      c.in_ok-above.above,
      c.in_ok-nodes.nodes,
      c.in_ok-node.ensures.is,
      subst (λ (o : Option SeenData). IsCountsSeen o (sees c.args.view.now (CountsKey c.args.path.now)) c.in_ok-counts.counts) c.as_ref.ensures.value c.in_ok-counts.ensures.is,
      c.in_ok-above.ensures.is,
      c.in_ok-nodes.ensures.is,
      is _ chosen ∙ ap (λ (ks : List Bytes). decision_of (narrowed c.args.view.now ks) (delete_choice c.args.path.now c.args.parent.now c.args.version c.in_ok-node.node c.in_ok-counts.counts c.in_ok-above.above c.in_ok-nodes.nodes)) keys,
    )) c.decision.ensures
