use Rattle.std.proofs.Common.{◌≡◌, ap, sym, ◌∙◌, None, arith, w64, rules}
use Rattle.std.proofs.lemmas.Grind.{common_steps}
use Rattle.std.proofs.lemmas.List.{take_all}
use Rattle.std.proofs.lemmas.Int.{to_z-of_z}
use Rattle.std.specs.Ordering.{int_eq}
use Rattle.ev_types.specs.Store.{mod_of}
use Rattle.ev_store.specs.Folds.{key_after_revisions}
use Rattle.ev_store.proofs.Keys.{get-present}
use Rattle.ev_store.proofs.store.Store.holds.Goals as goal

pub returns : goal.returns
returns c =
    let s = c.args.self.now in
    let guard = c.args.guard.now in
    let fold : c.find-found.result ≡ key_after_revisions 1 guard.key None s.revisions = grind (arith, common_steps, take_all) in
    c.is_at.ensures ∙ ap (int_eq (mod_of c.find-found.result)) (to_z-of_z w64 guard.mod_revision (search rules))
    ∙ ap (λ o. int_eq (mod_of o) guard.mod_revision) (fold ∙ sym (get-present s guard.key c.history-history.ensures.once (omega (arith, c.history-history.ensures.short))))
