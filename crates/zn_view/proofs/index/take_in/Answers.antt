use Rattle.std.proofs.Common.{◌≡◌, cond, Some, None, option_copied, ap, ◌∙◌, rules, arith}
use Rattle.std.specs.BTreeMap as tree
use Rattle.std.specs.Ordering.{nat_cmp}
use Rattle.std.specs.Cmp.Lexicographic.{slice_cmp}
use Rattle.std.proofs.lemmas.Grind.{common_steps}
use Rattle.zn_view.proofs.Indexing.{taken-in}
use Rattle.zn_view.proofs.index.take_in.Goals as goal

pub returns : goal.returns
returns c q =
    let k = c.args.seen.now.key in
    let name : c.as_slice.result.now ≡ k = c.as_slice.ensures in
    let free : tree.get (slice_cmp nat_cmp) c.args.index.now k ≡ None = grind (arith, common_steps, c.contains_key.ensures, c.if-contains_key.false, name) in
    let shows : option_copied c.as_ref.result ≡ c.args.seen.now.found = first_of (search rules, grind (arith, common_steps)) in
    taken-in option_copied c.args.seen.now c.as_ref.result (tree.get (slice_cmp nat_cmp) c.args.index.now) (tree.get (slice_cmp nat_cmp) c.insert.new.self) shows free
    (λ p. c.in_ok-insert.ensures.updates.0 p ∙ ap (λ x. cond (tree.is_at (slice_cmp nat_cmp x) p) (Some c.as_ref.result) (tree.get (slice_cmp nat_cmp) c.args.index.now p)) name) q
