use Rattle.std.proofs.Common.{◌<◌, ◌++◌, length, ap, sym, ◌∙◌, arith, rules, map, take}
use Rattle.std.proofs.lemmas.List.{map-append}
use Rattle.std.specs.List.{filter_map}
use Rattle.std.specs.Option.{option_to_list}
use Rattle.zp_script.specs.Conversing.{conversation, opened_by}
use Rattle.zp_ledger.proofs.Grouping.{given_more}
use Rattle.zp_ledger.proofs.conversations.conversations_in.Goals as goal

pub loop-line-preserved : goal.loop-line-preserved
loop-line-preserved c =
    let lines = c.args.lines.now in
    let less : c.loop-line.line-index < length lines = search (arith, rules) in
    c.in_ok-open.ensures ∙ ap (λ xs. xs ++ map (conversation lines) (option_to_list c.opened_by.result)) c.loop-line.invariant
    ∙ sym (map-append (conversation lines) (filter_map opened_by (take c.loop-line.line-index lines)) (option_to_list c.opened_by.result))
    ∙ ap (map (conversation lines)) (sym (given_more opened_by lines c.loop-line.line-index c.line-item.result c.opened_by.result less c.line-item.is c.opened_by.ensures))
