use Rattle.std.proofs.Common.{◌≡◌, ◌≤◌, ℕ, ℤ, None, List, length, take, ap, ◌∙◌, subst, arith, w64, to_z, of_z}
use Rattle.std.specs.BTreeMap as tree
use Rattle.std.specs.Ordering.{nat_cmp}
use Rattle.std.specs.Cmp.Lexicographic.{slice_cmp}
use Rattle.std.proofs.lemmas.Int.{to_z-of_z}
use Rattle.std.proofs.lemmas.List.{take_all}
use Rattle.std.proofs.lemmas.Result.{IfOk-weaker}
use Rattle.ev_types.specs.Store.{Change}
use Rattle.ev_store.specs.Folds.{key_after_revisions}
use Rattle.ev_store.specs.Leased.{with_lease, named_with, all_held}
use Rattle.ev_store.specs.Versions.{StandFor, versions_of, nth_changes}
use Rattle.ev_store.proofs.Holding.{held_all}
use Rattle.ev_store.proofs.Leasing.{held-leased}
use Rattle.ev_store.proofs.history.History.leased.Goals as goal

pub returns-then-self-count : goal.returns-then-self-count
returns-then-self-count c =
    let css = c.args.self.now in
    let count : length css ≤ c.len-count.result = let e = ap (λ (xs : List (List Change)). length xs) c.self.view_is in omega (arith, e, c.len-count.ensures) in
    IfOk-weaker c.held.result _ _ (λ held h q.
    ap (with_lease c.args.id) (held_all c.args.all.now (take c.len-count.result css) (tree.get (slice_cmp nat_cmp) held) c.requires h q
    ∙ ap (key_after_revisions 1 q None) (take_all c.len-count.result css count)))
    c.held.ensures

pub held_named-requires : goal.held_named-requires
held_named-requires c q = (c.self.invariant.3 q).in_order

pub returns : goal.returns
returns c =
    let s = c.self.inside in
    let css = s.revisions.items in
    let id = c.args.id in
    let count : c.len-count.result ≡ length css = omega (arith, c.len-count.ensures) in
    let whole : s.indexed ≡ length css = omega (arith, count, c.if-self-count.false, c.self.invariant.1) in
    IfOk-weaker c.held_named.result _ _ (λ held h q.
    ap (with_lease id) (h q
    ∙ ap (λ (n : ℕ). all_held n s.versions q None (named_with s.leased (to_z w64 (of_z w64 id)))) count
    ∙ ap (λ (i : ℤ). all_held (length css) s.versions q None (named_with s.leased i)) (to_z-of_z w64 id c.ranges.id))
    ∙ held-leased css s.begun s.versions s.leased id q (subst (λ (n : ℕ). StandFor css n (take s.begun (nth_changes n css)) q (versions_of s.versions q)) whole (c.self.invariant.3 q)) c.self.invariant.4
    ∙ ap (λ (xs : List (List Change)). with_lease id (key_after_revisions 1 q None xs)) c.self.view_is)
    c.held_named.ensures
