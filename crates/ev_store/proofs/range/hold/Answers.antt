use Rattle.std.proofs.Common.{◌≡◌, true, ap, sym, ◌∙◌, Some, None, arith, cond}
use Rattle.std.specs.BTreeMap as tree
use Rattle.std.specs.Ordering.{nat_cmp}
use Rattle.std.specs.Cmp.Lexicographic.{slice_cmp}
use Rattle.std.proofs.lemmas.Grind.{common_steps}
use Rattle.zx_base.specs.Maps.{Bytes}
use Rattle.ev_types.specs.Ranges.{is_within}
use Rattle.ev_types.specs.Store.{Puts, Removes}
use Rattle.ev_store.specs.Changes.{change_of}
use Rattle.ev_store.specs.Folds.{kv_after_put, within_change}
use Rattle.ev_store.proofs.Holding.{hold-put, hold-remove}
use Rattle.ev_store.proofs.range.hold.Goals as goal

pub returns-in_ok-insert-in-Some : goal.returns-in_ok-insert-in-Some
returns-in_ok-insert-in-Some c q =
    let k = c.change.inside.key in
    let inside : is_within c.args.range.now.key c.args.range.now.end k ≡ true = grind (arith, common_steps) in
    let put : Puts k c.in-Some.content.value c.in-Some.content.lease ≡ c.args.change.now = ap (change_of k) (sym c.in-Some.is) ∙ c.change.view_is in
    let name : c.as_slice-2.result.now ≡ k = c.as_slice-2.ensures in
    let found : c.after_put-found.result ≡ kv_after_put c.args.revision k c.in-Some.content.value c.in-Some.content.lease (tree.get (slice_cmp nat_cmp) c.args.held.now k) =
    grind (arith, common_steps, c.get.ensures.value, c.after_put-found.ensures, name) in
    let writes : (p : Bytes) → tree.get (slice_cmp nat_cmp) c.insert.new.self p ≡ cond (tree.is_at (slice_cmp nat_cmp k) p) (Some c.after_put-found.result) (tree.get (slice_cmp nat_cmp) c.args.held.now p) =
    λ p. c.in_ok-insert-in-Some.ensures.updates.0 p ∙ ap (λ x. cond (tree.is_at (slice_cmp nat_cmp x) p) (Some c.after_put-found.result) (tree.get (slice_cmp nat_cmp) c.args.held.now p)) name in
    hold-put c.args.range.now c.args.revision k c.in-Some.content.value c.in-Some.content.lease c.after_put-found.result (tree.get (slice_cmp nat_cmp) c.args.held.now)
    (tree.get (slice_cmp nat_cmp) c.insert.new.self) inside found writes q
    ∙ ap (within_change c.args.range.now c.args.revision q (tree.get (slice_cmp nat_cmp) c.args.held.now q)) put

pub returns-in-None : goal.returns-in-None
returns-in-None c q =
    let k = c.change.inside.key in
    let inside : is_within c.args.range.now.key c.args.range.now.end k ≡ true = grind (arith, common_steps) in
    let removed : Removes k ≡ c.args.change.now = ap (change_of k) (sym c.in-None.is) ∙ c.change.view_is in
    let name : c.as_slice-2.result.now ≡ k = c.as_slice-2.ensures in
    let writes : (p : Bytes) → tree.get (slice_cmp nat_cmp) c.remove.new.self p ≡ cond (tree.is_at (slice_cmp nat_cmp k) p) None (tree.get (slice_cmp nat_cmp) c.args.held.now p) =
    λ p. c.remove.ensures.updates.0 p ∙ ap (λ x. cond (tree.is_at (slice_cmp nat_cmp x) p) None (tree.get (slice_cmp nat_cmp) c.args.held.now p)) name in
    hold-remove c.args.range.now c.args.revision k (tree.get (slice_cmp nat_cmp) c.args.held.now) (tree.get (slice_cmp nat_cmp) c.remove.new.self) inside writes q
    ∙ ap (within_change c.args.range.now c.args.revision q (tree.get (slice_cmp nat_cmp) c.args.held.now q)) removed
