-- The change, by the tests that were made.
use Rattle.std.proofs.Common.{◌≡◌, ◌∙◌, ◌&&◌, ℤ, pos, ap, sym, rules, w32}
use Rattle.std.specs.Prelude.{None, Some, if◌then◌else◌}
use Rattle.std.specs.Ordering.{int_eq}
use Rattle.std.proofs.lemmas.Int.{to_z-of_z}
use Rattle.zk_model.specs.Paths.{parent}
use Rattle.zk_model.specs.Single.{matches}
use Rattle.zn_layout.specs.declared.record.CountRec.{CountRec}
use Rattle.zn_view.specs.declared.leaving.NodeNow.{NodeNow}
use Rattle.zn_view.specs.declared.leaving.TreeChange.TheVariants.{Deleted}
use Rattle.zn_view.specs.Leaving.{are_seen, delete_change, is_owner_seen}
use Rattle.zn_view.specs.Views.{counts_of_parent}
use Rattle.zn_multi.proofs.leaving.delete_change.Goals as goal

pub returns : goal.returns
returns c =
    let n : NodeNow = c.in-Some-Some.node in
    let k : CountRec = c.in-Some-Some-counts.counts in
    let node : c.args.node ≡ Some (Some n) = search rules in
    let counts : c.args.counts ≡ Some (Some k) = search rules in
    let version = to_z-of_z w32 _ c.ranges.version in
    let passes : c.is_deletable-passes.result ≡ (matches c.args.version n.version && int_eq k.children (pos 0)) = c.is_deletable-passes.ensures ∙ ap (λ (x : ℤ). matches x n.version && int_eq k.children (pos 0)) version in
    let above : c.in_ok-parent.parent ≡ are_seen c.args.view.now (counts_of_parent (parent c.args.path)) = c.in_ok-parent.ensures in
    let owner : c.in_ok-owner.owner ≡ is_owner_seen c.args.view.now n.owner = c.in_ok-owner.ensures in
    c.deleted.ensures
    ∙ (λ i. if passes i && (above i && owner i) then Some (Deleted c.args.path n.owner) else None)
    ∙ sym (λ i. delete_change c.args.view.now c.args.path c.args.version (node i) (counts i))
