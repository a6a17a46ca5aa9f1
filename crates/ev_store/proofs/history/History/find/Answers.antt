use Rattle.std.proofs.Common.{◌+◌, ◌-◌, ◌≤◌, length, take, drop, List, None, sym, ap, ◌∙◌, subst, arith}
use Rattle.zx_base.specs.Maps.{Bytes}
use Rattle.ev_types.specs.Store.{Change}
use Rattle.ev_store.specs.Folds.{key_after_revisions}
use Rattle.ev_store.proofs.Index.{read_on, part-is}
use Rattle.ev_store.proofs.history.History.find.Goals as goal

pub find_at-found-requires : goal.find_at-found-requires
find_at-found-requires c = (c.self.invariant.3 c.args.key.now).in_order

pub returns : goal.returns
returns c =
    let css = c.self.inside.revisions.items in
    let covered = c.min-covered.result in
    let k = c.args.key.now in
    let le : covered ≤ c.args.count = omega (arith, c.min-covered.ensures) in
    let has : covered ≤ c.self.inside.indexed = omega (arith, c.min-covered.ensures) in
    let within : c.args.count ≤ length css = subst (λ (xs : List (List Change)). c.args.count ≤ length xs) (sym c.self.view_is) c.requires in
    c.after_revisions.ensures
    ∙ ap (λ (x : Bytes). key_after_revisions (covered + 1) x c.find_at-found.result (take (c.args.count - covered) (drop covered c.deref.result.now))) c.as_slice.ensures
    ∙ ap (λ xs. key_after_revisions (covered + 1) k c.find_at-found.result (take (c.args.count - covered) (drop covered xs))) c.deref.ensures.value
    ∙ ap (λ xs. key_after_revisions (covered + 1) k c.find_at-found.result xs) (part-is css covered c.args.count le)
    ∙ ap (λ o. key_after_revisions (covered + 1) k o (drop covered (take c.args.count css))) (c.find_at-found.ensures ∙ (c.self.invariant.3 k).whole covered has)
    ∙ read_on k css covered c.args.count le within
    ∙ ap (λ xs. key_after_revisions 1 k None (take c.args.count xs)) c.self.view_is
