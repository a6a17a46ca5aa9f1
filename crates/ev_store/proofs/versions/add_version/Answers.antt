use Rattle.std.proofs.Common.{◌≡◌, ◌++◌, ◌∷◌, [], ap, ◌∙◌, rules, cond, Some}
use Rattle.std.specs.BTreeMap as tree
use Rattle.std.specs.Option.{unwrap_or}
use Rattle.std.specs.Ordering.{nat_cmp}
use Rattle.std.specs.Cmp.Lexicographic.{slice_cmp}
use Rattle.zx_base.specs.Maps.{Bytes}
use Rattle.ev_store.proofs.Index.{added, kept}
use Rattle.ev_store.proofs.versions.add_version.Goals as goal

pub returns-in-Some : goal.returns-in-Some
returns-in-Some c =
    let m = tree.get (slice_cmp nat_cmp) c.args.versions.now in
    let n = tree.get (slice_cmp nat_cmp) (c.get_mut.follows.lender c.push.new.self) in
    record {
      ok = added m n c.args.key.now c.push.new.self c.args.version
          (c.in_ok-push.ensures.ok ∙ ap (λ o. unwrap_or o [] ++ c.args.version ∷ []) c.in-Some.ensures.value)
          ((c.get_mut.follows.holds c.push.new.self).3 (search rules)).0;
      err = tt;
    }

pub returns-in_err-push-clause-err : goal.returns-in_err-push-clause-err
returns-in_err-push-clause-err c =
    let m = tree.get (slice_cmp nat_cmp) c.args.versions.now in
    let n = tree.get (slice_cmp nat_cmp) (c.get_mut.follows.lender c.push.new.self) in
    search (
      rules,
      kept m n c.args.key.now c.push.new.self
          (c.in_err-push.ensures.err ∙ ap (λ o. unwrap_or o []) c.in-Some.ensures.value)
          ((c.get_mut.follows.holds c.push.new.self).3 (search rules)).0,
    )

pub returns-clause-ok : goal.returns-clause-ok
returns-clause-ok c =
    let m = tree.get (slice_cmp nat_cmp) c.args.versions.now in
    let n = tree.get (slice_cmp nat_cmp) c.insert.new.self in
    let k = c.args.key.now in
    let name : c.in_ok-copy_of.field-0 ≡ k = c.in_ok-copy_of.ensures ∙ c.as_slice.ensures in
    added m n k c.push-2.new.self c.args.version
    (c.in_ok-push-2.ensures.ok ∙ ap (λ xs. xs ++ c.args.version ∷ []) (c.new-first.ensures ∙ ap (λ o. unwrap_or o []) c.in_default.ensures.value))
    (λ q. c.in_ok-insert.ensures.updates.0 q
    ∙ ap (λ mm. cond (tree.is_at (slice_cmp nat_cmp c.in_ok-copy_of.field-0) q) (Some c.push-2.new.self) (tree.get (slice_cmp nat_cmp) mm q)) c.get_mut.follows.holds-at-none
    ∙ ap (λ (x : Bytes). cond (tree.is_at (slice_cmp nat_cmp x) q) (Some c.push-2.new.self) (m q)) name)
