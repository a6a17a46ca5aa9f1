use Rattle.std.proofs.Common.{◌≡◌, ◌+ℤ◌, pos, ap, sym, ◌∙◌, is_some, None, arith}
use Rattle.std.proofs.lemmas.Grind.{common_steps}
use Rattle.std.proofs.lemmas.List.{take_all}
use Rattle.ev_types.specs.Store.{revision}
use Rattle.ev_store.specs.Folds.{key_after_changes, key_after_revisions}
use Rattle.ev_store.proofs.Keys.{get-next}
use Rattle.ev_store.proofs.store.Store.has_key.Goals as goal

pub returns : goal.returns
returns c =
    let s = c.args.self.now in
    let r = revision s +ℤ pos 1 in
    let fold : c.after_changes.result ≡ key_after_changes r c.args.key.now (key_after_revisions 1 c.args.key.now None s.revisions) c.args.changes.now = grind (arith, common_steps, take_all) in
    c.is_some.ensures ∙ ap is_some (fold ∙ sym (get-next s r c.args.changes.now c.args.key.now c.history-history.ensures.once (omega (arith, c.history-history.ensures.short)) c.requires))
