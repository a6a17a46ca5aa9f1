use Rattle.std.proofs.Common.{IfOk, ◌≡◌, ◌+◌, ◌+ℤ◌, ◌<◌, ◌^◌, pos, length, take, subst, ap, ◌∙◌, w64, to_z, of_z, rules, arith}
use Rattle.std.specs.BTreeMap as tree
use Rattle.std.specs.Ordering.{nat_cmp}
use Rattle.std.specs.Cmp.Lexicographic.{slice_cmp}
use Rattle.std.proofs.lemmas.List.{length-take}
use Rattle.ev_types.specs.declared.answer.RangeAns.{RangeAns}
use Rattle.ev_store.specs.Changes.{puts_once}
use Rattle.ev_store.specs.Folds.{within_changes}
use Rattle.ev_store.proofs.Holding.{looked-values}
use Rattle.ev_store.proofs.range.look.Goals as goal
use Rattle.zx_base.proofs.Lists.{all-take}

pub returns : goal.returns
returns c =
    let n = c.args.count in
    let css = take n c.args.history.now in
    let few : length css < 2 ^ 62 = omega (arith, length-take n c.args.history.now, c.requires.short) in
    let number : to_z w64 (of_z w64 (to_z w64 n +ℤ pos 1)) ≡ pos (n + 1) = search rules in
    subst (λ (f : RangeAns). IfOk c.answer.result (λ a. a ≡ f))
    (looked-values c.args.range.now (pos (n + 1)) css c.args.changes.now c.in_ok-held.held.entries c.hold_changes.new.held.entries (all-take puts_once n c.args.history.now c.requires.once) few c.requires.next_once
    c.answer.ensures.in_order c.in_ok-held.ensures
    (λ q. c.in_ok-hold_changes.ensures q ∙ ap (λ k. within_changes c.args.range.now k q (tree.get (slice_cmp nat_cmp) c.in_ok-held.held q) c.args.changes.now) number))
    c.answer.ensures.found
