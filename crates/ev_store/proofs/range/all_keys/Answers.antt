use Rattle.std.proofs.Common.{◌≡◌, [], ◌∷◌, ◌++◌, ap, ◌∙◌}
use Rattle.ev_types.specs.Ranges.{is_within}
use Rattle.ev_store.proofs.Holding.{is_within_all}
use Rattle.ev_store.proofs.range.all_keys.Goals as goal

pub returns : goal.returns
returns c k =
    let end : c.push.new.self ≡ 0 ∷ [] = c.in_ok-push.ensures.ok ∙ ap (λ xs. xs ++ 0 ∷ []) c.new-end.ensures in
    ap (λ xs. is_within xs c.push.new.self k) c.new.ensures ∙ ap (λ xs. is_within [] xs k) end ∙ is_within_all k
