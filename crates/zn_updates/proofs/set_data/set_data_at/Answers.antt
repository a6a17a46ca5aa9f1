-- The path that is told is valid, and the keys that are guarded are those that were looked up.
use Rattle.std.proofs.Common.{◌≡◌, ◌∙◌, List, Option, ap, subst, w64, rules, arith}
use Rattle.std.specs.Prelude.{map}
use Rattle.std.proofs.lemmas.Grind.{common_steps}
use Rattle.std.proofs.lemmas.Int.{to_z-of_z}
use Rattle.std.proofs.lemmas.Result.{IfOk-weaker}
use mir.Val.{SFits}
use Rattle.zn_layout.proofs.Paths.{path_short}
use Rattle.zn_layout.specs.Keys.{CountsKey, key_bytes}
use Rattle.zn_layout.specs.Records.{IsHeadRec}
use Rattle.zn_view.specs.Asks.{narrowed}
use Rattle.zn_view.specs.Lookups.{sees}
use Rattle.zx_base.specs.Maps.{Bytes}
use Rattle.zn_updates.specs.declared.seen.SeenData.{SeenData}
use Rattle.zn_updates.specs.Choices.{set_data_choice}
use Rattle.zn_updates.specs.Deciding.{decision_of}
use Rattle.zn_updates.specs.KeysRead.{set_data_keys}
use Rattle.zn_updates.specs.Making.{chosen_of, IsCountsSeen}
use Rattle.zn_updates.proofs.Clauses.{if_made}
use Rattle.zn_updates.proofs.SetDataClauses.{set_bounds}
use Rattle.zn_updates.proofs.set_data.set_data_at.Goals as goal

pub set_data_keys-requires-clause-short : goal.set_data_keys-requires-clause-short
set_data_keys-requires-clause-short c = path_short c.args.path.now c.requires.valid

pub decision-requires : goal.decision-requires
decision-requires c = if_made IsHeadRec c.in_ok-chosen.chosen _ c.in_ok-chosen.ensures (set_bounds c.args.path.now c.args.content.now _ _ _ c.args.now c.requires.valid)

pub returns : goal.returns
returns c =
    let fits : SFits w64 c.args.session = search rules in
    let keys : c.as_slice.result.now ≡ map key_bytes (set_data_keys c.args.path.now c.args.session) = (first_of (search rules, grind (arith, common_steps, to_z-of_z w64 _ fits))) in
    let chosen : c.in_ok-chosen.chosen ≡ chosen_of (set_data_choice c.args.path.now c.args.content.now c.args.version c.args.now c.in_ok-node.node c.in_ok-counts.counts) = first_of (search rules, grind (arith, common_steps)) in
    IfOk-weaker c.decision.result _ _ (λ d is. (
      c.in_ok-node.node,
      c.in_ok-counts.counts,
      c.in_ok-node.ensures.is,
      subst (λ (o : Option SeenData). IsCountsSeen o (sees c.args.view.now (CountsKey c.args.path.now)) c.in_ok-counts.counts) c.as_ref.ensures.value c.in_ok-counts.ensures.is,
      is _ chosen ∙ ap (λ (ks : List Bytes). decision_of (narrowed c.args.view.now ks) (set_data_choice c.args.path.now c.args.content.now c.args.version c.args.now c.in_ok-node.node c.in_ok-counts.counts)) keys,
    )) c.decision.ensures
