-- The change, by the tests that were made.
use Rattle.std.proofs.Common.{◌≡◌, ◌∙◌, ◌&&◌, ℤ, not, ap, sym, rules, w32}
use Rattle.std.specs.Prelude.{None, Some, is_some, if◌then◌else◌}
use Rattle.std.specs.Ordering.{int_eq}
use Rattle.std.proofs.lemmas.Int.{to_z-of_z}
use Rattle.zk_model.specs.Limits.{max_version}
use Rattle.zk_model.specs.Single.{matches}
use Rattle.zn_layout.specs.Keys.{CountsKey, key_bytes}
use Rattle.zn_view.specs.declared.leaving.NodeNow.{NodeNow}
use Rattle.zn_view.specs.declared.leaving.TreeChange.TheVariants.{DataSet}
use Rattle.zn_view.specs.Leaving.{set_change}
use Rattle.zn_view.specs.Seen.{seen}
use Rattle.zn_multi.proofs.leaving.set_change.Goals as goal

pub returns : goal.returns
returns c =
    let n : NodeNow = c.in-Some-Some.node in
    let node : c.args.node ≡ Some (Some n) = search rules in
    let version = to_z-of_z w32 _ c.ranges.version in
    let passes : c.is_settable-passes.result ≡ (matches c.args.version n.version && not (int_eq n.version max_version)) = c.is_settable-passes.ensures ∙ ap (λ (x : ℤ). matches x n.version && not (int_eq n.version max_version)) version in
    let looked : c.in_ok-looked.looked ≡ is_some (seen c.args.view.now (key_bytes (CountsKey c.args.path))) = c.in_ok-looked.ensures in
    c.data_set.ensures
    ∙ (λ i. if passes i && looked i then Some (DataSet c.args.path) else None)
    ∙ sym (ap (set_change c.args.view.now c.args.path c.args.version) node)
