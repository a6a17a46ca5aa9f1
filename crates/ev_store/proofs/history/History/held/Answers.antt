use Rattle.std.proofs.Common.{◌+◌, ◌-◌, ◌≤◌, length, take, drop, List, None, sym, ap, ◌∙◌, subst, arith}
use Rattle.std.specs.BTreeMap as tree
use Rattle.std.specs.Ordering.{nat_cmp}
use Rattle.std.specs.Cmp.Lexicographic.{slice_cmp}
use Rattle.std.proofs.lemmas.Result.{IfOk-weaker}
use Rattle.ev_types.specs.Store.{Change}
use Rattle.ev_store.specs.Folds.{within_revisions}
use Rattle.ev_store.specs.Versions.{versions_of}
use Rattle.ev_store.proofs.Index.{read_on_within, part-is}
use Rattle.ev_store.proofs.history.History.held.Goals as goal

pub held_at-requires : goal.held_at-requires
held_at-requires c q = (c.self.invariant.3 q).in_order

pub returns : goal.returns
returns c =
    let css = c.self.inside.revisions.items in
    let covered = c.min-covered.result in
    let n = c.args.count in
    let le : covered ≤ n = omega (arith, c.min-covered.ensures) in
    let has : covered ≤ c.self.inside.indexed = omega (arith, c.min-covered.ensures) in
    let within : n ≤ length css = subst (λ (xs : List (List Change)). n ≤ length xs) (sym c.self.view_is) c.requires in
    IfOk-weaker c.held_after.result _ _ (λ after h q.
    h q
    ∙ ap (λ xs. within_revisions c.args.range.now (covered + 1) q (tree.get (slice_cmp nat_cmp) c.in_ok-held.held q) (take (n - covered) (drop covered xs))) c.deref.ensures.value
    ∙ ap (within_revisions c.args.range.now (covered + 1) q (tree.get (slice_cmp nat_cmp) c.in_ok-held.held q)) (part-is css covered n le)
    ∙ ap (λ o. within_revisions c.args.range.now (covered + 1) q o (drop covered (take n css))) (c.in_ok-held.ensures q)
    ∙ read_on_within c.args.range.now q css covered n (versions_of c.self.inside.versions q) le within ((c.self.invariant.3 q).whole covered has)
    ∙ ap (λ xs. within_revisions c.args.range.now 1 q None (take n xs)) c.self.view_is)
    c.held_after.ensures
