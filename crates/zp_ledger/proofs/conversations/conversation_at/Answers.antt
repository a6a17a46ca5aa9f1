use Rattle.std.proofs.Common.{◌<◌, ◌++◌, length, get_or, ap, sym, ◌∙◌, arith, rules, refl}
use Rattle.std.proofs.lemmas.List.{get_or_default}
use Rattle.std.specs.Prelude.{slice_get}
use Rattle.std.specs.Option.{option_to_list}
use Rattle.zp_ledger.proofs.Grouping.{given_more}
use Rattle.zp_ledger.proofs.conversations.conversation_at.Goals as goal

pub loop-place-preserved : goal.loop-place-preserved
loop-place-preserved c =
    let places = c.args.places.now in
    let lines = c.args.lines.now in
    let i = c.loop-place.place-index in
    let place = get_or places i 0 in
    let less : i < length places = search (arith, rules) in
    c.in_ok-add.ensures ∙ ap (λ xs. xs ++ option_to_list (slice_get lines place)) c.loop-place.invariant
    ∙ sym (given_more (slice_get lines) places i place (slice_get lines place) less (get_or_default places i 0 place less) refl)
