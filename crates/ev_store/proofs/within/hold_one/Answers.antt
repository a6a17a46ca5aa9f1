use Rattle.std.proofs.Common.{◌≡◌, cond, Some, None, sym, ap, ◌∙◌, arith}
use Rattle.std.specs.BTreeMap as tree
use Rattle.std.specs.Ordering.{nat_cmp}
use Rattle.std.specs.Cmp.Lexicographic.{slice_cmp}
use Rattle.std.proofs.lemmas.Grind.{common_steps}
use Rattle.zx_base.specs.Maps.{Bytes}
use Rattle.ev_store.specs.Versions.{state_at, versions_of}
use Rattle.ev_store.proofs.Ranging.{one-some}
use Rattle.ev_store.proofs.within.hold_one.Goals as goal

pub returns : goal.returns
returns c q =
    let k = c.args.key.now in
    let empty : tree.get (slice_cmp nat_cmp) c.new-held.result q ≡ None = grind (arith, common_steps) in
    c.in_ok-insert.ensures.updates.0 q
    ∙ ap (λ (x : Bytes). cond (tree.is_at (slice_cmp nat_cmp x) q) (Some c.in-Some.found) (tree.get (slice_cmp nat_cmp) c.new-held.result q)) c.as_slice.ensures
    ∙ ap (λ o. cond (tree.is_at (slice_cmp nat_cmp k) q) (Some c.in-Some.found) o) empty
    ∙ one-some k q (λ x. state_at x c.args.revision (versions_of c.args.versions.now x)) c.in-Some.found (sym c.find_at.ensures ∙ c.in-Some.is)
