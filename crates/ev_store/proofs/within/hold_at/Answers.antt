use Rattle.std.proofs.Common.{cond, Some, sym, ap, ◌∙◌}
use Rattle.std.specs.BTreeMap as tree
use Rattle.std.specs.Option.{option_or}
use Rattle.std.specs.Ordering.{nat_cmp}
use Rattle.std.specs.Cmp.Lexicographic.{slice_cmp}
use Rattle.zx_base.specs.Maps.{Bytes, same}
use Rattle.ev_types.proofs.Names.{names-tie}
use Rattle.ev_store.specs.Versions.{state_at}
use Rattle.ev_store.proofs.within.hold_at.Goals as goal

pub returns-in_ok-insert : goal.returns-in_ok-insert
returns-in_ok-insert c q =
    let k = c.args.key.now in
    let old = tree.get (slice_cmp nat_cmp) c.args.held.now q in
    c.in_ok-insert.ensures.updates.0 q
    ∙ ap (λ (x : Bytes). cond (tree.is_at (slice_cmp nat_cmp x) q) (Some c.in-Some.found) old) c.as_slice-in-Some.ensures
    ∙ ap (λ b. cond b (Some c.in-Some.found) old) (names-tie k q)
    ∙ ap (λ o. cond (same k q) (option_or o old) old) (sym c.in-Some.is ∙ c.shown_at.ensures ∙ ap (state_at k c.args.revision) c.as_slice.ensures)
