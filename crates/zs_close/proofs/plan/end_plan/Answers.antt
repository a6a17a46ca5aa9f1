-- What watches see is within the head's bounds; and the plan is that of the end.
use Rattle.std.proofs.Common.{w64, ℤ, List, Option, ◌≡◌, ◌≤◌, length, refl, sym, ap, ◌∙◌, subst, arith}
use Rattle.std.proofs.lemmas.Int.{to_z-of_z}
use Rattle.zk_model.specs.declared.node.Trigger.{Trigger}
use Rattle.zx_base.specs.Maps.{Bytes}
use Rattle.zn_layout.specs.declared.record.CountRec.{CountRec}
use Rattle.zn_layout.specs.declared.record.SessionRec.{SessionRec}
use Rattle.zn_layout.specs.Changes.{acts_of}
use Rattle.zn_layout.specs.Records.{IsHeadRec}
use Rattle.zn_view.specs.Asks.{again_of, guards_of, picked}
use Rattle.zn_view.proofs.Sizes.{owned-most}
use Rattle.zs_close.specs.Closing.{TellsCounts}
use Rattle.zs_close.specs.Ending.{end_changes, end_triggers, parents}
use Rattle.zs_close.specs.Wanting.{read_keys}
use Rattle.zs_close.proofs.EndPlans.{plan-made}
use Rattle.zs_close.proofs.TriggerBounds.{end_triggers-within}
use Rattle.zs_close.proofs.plan.end_plan.Goals as goal

pub success-requires : goal.success-requires
success-requires c =
    let nodes : SessionRec = c.args.nodes.now in
    let few : length nodes.paths ≤ 60 = omega (arith, c.requires.few, owned-most nodes.layout) in
    subst (λ (ts : List Trigger). IsHeadRec ts) (sym (c.in_ok-end_triggers.ensures ∙ ap end_triggers c.as_slice-paths.ensures)) (end_triggers-within nodes.paths few c.requires.valid)

pub returns : goal.returns
returns c =
    let at = to_z-of_z w64 c.args.session c.ranges.session in
    let v = c.args.view.now in
    let nodes : SessionRec = c.args.nodes.now in
    let ps : List Bytes = nodes.paths in
    let listed = c.as_slice-paths.ensures in
    let keys = c.in_ok-keys.ensures ∙ (λ i. read_keys (at i) (listed i)) in
    plan-made c.args.alive c.args.session v nodes _ c.in_ok-acts.acts c.requires.valid c.requires.few
    (c.in_ok-guards_on.ensures ∙ ap (λ (ks : List Bytes). guards_of (picked v ks)) (c.as_slice.ensures ∙ keys))
    (c.in_ok-again_on.ensures ∙ ap (λ (ks : List Bytes). again_of (picked v ks)) (c.as_slice-2.ensures ∙ keys))
    c.in_ok-success.ensures refl (c.in_ok-end_triggers.ensures ∙ ap end_triggers listed) c.in_ok-acts.ensures.written
    (subst (λ (i : ℤ). (counts : Bytes → Option CountRec) → TellsCounts v counts (parents ps) → c.in_ok-acts.acts ≡ acts_of (end_changes c.args.alive i counts nodes)) at c.in_ok-acts.ensures.told)
