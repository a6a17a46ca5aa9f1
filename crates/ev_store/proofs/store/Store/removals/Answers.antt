use Rattle.std.proofs.Common.{◌≡◌, ◌<◌, ◌^◌, ℤ, List, IfOk, length, sym, ap, ◌∙◌, subst, None, arith, w64, to_z, of_z}
use Rattle.std.specs.BTreeMap as tree
use Rattle.std.specs.Ordering.{nat_cmp}
use Rattle.std.specs.Cmp.Lexicographic.{slice_cmp}
use Rattle.std.specs.FinMap.{get}
use Rattle.std.specs.Map.{keys_of}
use Rattle.std.proofs.lemmas.Int.{to_z-of_z}
use Rattle.std.proofs.lemmas.Result.{IfOk-weaker}
use Rattle.zx_base.specs.Maps.{Bytes}
use Rattle.ev_types.specs.Lapses as lapses
use Rattle.ev_types.specs.Store.{Change, present}
use Rattle.ev_store.specs.Changes.{leased_among}
use Rattle.ev_store.specs.Folds.{key_after_revisions}
use Rattle.ev_store.specs.Leased.{with_lease}
use Rattle.ev_store.proofs.Keys.{get-present}
use Rattle.ev_store.proofs.Lapsing.{keys-leased, removals_once}
use Rattle.ev_store.proofs.store.Store.removals.Goals as goal

pub returns-clause-all : goal.returns-clause-all
returns-clause-all c =
    let s = c.args.self.now in
    let id = c.args.id in
    let held = c.in_ok-held.held in
    let same_id : to_z w64 (of_z w64 id) ≡ id = to_z-of_z w64 id c.ranges.id in
    let short : length s.revisions < 2 ^ 62 = omega (arith, c.history.ensures.short) in
    let gets : (q : Bytes) → with_lease id (tree.get (slice_cmp nat_cmp) held q) ≡ with_lease id (get (present s) q) =
    λ q. subst (λ (i : ℤ). with_lease i (tree.get (slice_cmp nat_cmp) held q) ≡ with_lease i (key_after_revisions 1 q None c.history.result.now)) same_id (c.in_ok-held.ensures q)
    ∙ ap (λ (css : List (List Change)). with_lease id (key_after_revisions 1 q None css)) c.history.ensures.all
    ∙ ap (with_lease id) (sym (get-present s q c.history.ensures.once short)) in
    subst (λ (ks : List Bytes). IfOk c.removals.result (λ cs. cs ≡ lapses.removals ks)) (keys-leased s id held.entries c.removals.ensures.in_order gets)
    (subst (λ (i : ℤ). IfOk c.removals.result (λ cs. cs ≡ lapses.removals (keys_of (leased_among i held.entries)))) same_id c.removals.ensures.all)

pub returns-clause-once : goal.returns-clause-once
returns-clause-once c = IfOk-weaker c.removals.result _ _ (removals_once _) c.removals.ensures.all
