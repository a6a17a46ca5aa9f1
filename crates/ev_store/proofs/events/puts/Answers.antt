use Rattle.std.proofs.Common.{◌≡◌, ◌+◌, ◌<◌, ◌^◌, ◌++◌, Option, None, take, drop, length, refl, sym, ap, ◌∙◌, arith}
use Rattle.std.specs.FinMap.{empty}
use Rattle.std.proofs.lemmas.List.{length-take-le, length-drop}
use Rattle.zx_base.specs.Maps.{Bytes}
use Rattle.ev_types.specs.declared.answer.Kv.{Kv}
use Rattle.ev_types.specs.Store.{keys_from}
use Rattle.ev_store.specs.Changes.{puts_once}
use Rattle.ev_store.specs.Events.{puts_from}
use Rattle.ev_store.specs.Folds.{key_after_revisions, puts_after_revisions}
use Rattle.ev_store.proofs.Places.{all-drop}
use Rattle.ev_store.proofs.Putting.{puts_from-read}
use Rattle.ev_store.proofs.events.puts.Goals as goal
use Rattle.zx_base.proofs.Lists.{all-take}

pub returns : goal.returns
returns c =
    let n = c.args.before in
    let most = c.args.most in
    let css = c.args.history.now in
    let found : Bytes → Option Kv = λ q. key_after_revisions 1 q None (take n css) in
    let count : length (take n css) ≡ n = length-take-le n css c.requires.within in
    let short : length (take n css) + length (drop n css) < 2 ^ 62 = omega (arith, count, length-drop n css, c.requires.short, c.requires.within) in
    c.in_ok-push_puts_of_all.ensures
    ∙ ap (λ xs. take most (xs ++ puts_after_revisions (n + 1) found (drop n css))) c.new-puts.ensures
    ∙ ap (λ k. take most (puts_after_revisions (k + 1) found (drop n css))) (sym count)
    ∙ ap (take most) (puts_from-read (take n css) (drop n css) found (all-take puts_once n css c.requires.once) (all-drop puts_once n css c.requires.once) short (λ q. refl))
    ∙ ap (λ k. take most (puts_from (k + 1) (keys_from 1 empty (take n css)) (drop n css))) count
