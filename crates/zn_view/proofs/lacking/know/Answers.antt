use Rattle.std.proofs.Common.{Bool, true, false, cond, ◌≡◌, ◌||◌, refl, ap, ◌∙◌}
use Rattle.std.specs.BTreeMap.{is_at}
use Rattle.std.specs.BTreeSet as set
use Rattle.std.specs.Ordering.{nat_cmp}
use Rattle.std.specs.Cmp.Lexicographic.{slice_cmp}
use Rattle.ev_types.proofs.Names.{names-tie}
use Rattle.zn_view.proofs.lacking.know.Goals as goal

one-more : (b c : Bool) → cond b true c ≡ (c || b)
one-more true true = refl
one-more true false = refl
one-more false true = refl
one-more false false = refl

pub returns-clause-known : goal.returns-clause-known
returns-clause-known c q =
    let k = c.args.key.now in
    c.in_ok-insert.ensures.updates.0 q ∙ one-more (is_at (slice_cmp nat_cmp k) q) (set.contains (slice_cmp nat_cmp) c.args.known.now q) ∙ ap (λ b. set.contains (slice_cmp nat_cmp) c.args.known.now q || b) (names-tie k q)
