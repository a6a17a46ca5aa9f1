-- The operation is that of the counts that the view saw.
use Rattle.std.proofs.Common.{◌≡◌, ◌≤◌, length, Some, None, sym, subst}
use Rattle.zk_model.specs.Limits.{max_path}
use Rattle.zn_layout.proofs.Paths.{path_short}
use Rattle.zn_layout.specs.Keys.{CountsKey}
use Rattle.zn_view.specs.Lookups.{sees}
use Rattle.zx_base.specs.Maps.{Bytes}
use Rattle.zs_close.proofs.Told.{parent-absent, parent-there}
use Rattle.zs_close.proofs.WritesAfter.{nothing-after, put-after}
use Rattle.zs_close.proofs.changes.push_counts.Goals as goal

pub counts_at-requires-clause-short : goal.counts_at-requires-clause-short
counts_at-requires-clause-short c = subst (λ (p : Bytes). length p ≤ max_path) (sym c.bytes.ensures) (path_short c.args.parent.now c.requires.valid)

pub returns-in_default-clause-told : goal.returns-in_default-clause-told
returns-in_default-clause-told c = λ counts tells rest.
    let saw = rw c.in_default.is at c.in_ok-counts.ensures in
    parent-absent c.args.view.now counts c.args.parent.now tells c.args.acts.now c.args.paths.now rest
    (subst (λ (p : Bytes). sees c.args.view.now (CountsKey p) ≡ Some None) c.bytes.ensures saw)

pub returns-clause-told : goal.returns-clause-told
returns-clause-told c = λ counts tells rest.
    let found = rw c.in-Some.is at c.in_ok-counts.ensures in
    parent-there c.args.view.now counts c.args.parent.now tells c.args.acts.now c.args.paths.now rest
    c.in-Some.field-0-1.now c.in-Some.counts c.push_fewer.new.acts
    (subst (λ (p : Bytes). sees c.args.view.now (CountsKey p) ≡ Some (Some c.in-Some.field-0-1.now)) c.bytes.ensures found.0)
    found.1 c.in_ok-push_fewer.ensures

pub returns-in_default-clause-after : goal.returns-in_default-clause-after
returns-in_default-clause-after c = nothing-after c.args.acts.now

pub returns-clause-after : goal.returns-clause-after
returns-clause-after c = put-after c.args.acts.now c.push_fewer.new.acts _ _ c.in_ok-push_fewer.ensures
