use Rattle.std.proofs.Common.{◌≡◌, ◌≤◌, ◌++◌, length, ap, sym, ◌∙◌}
use Rattle.std.proofs.lemmas.List.{append-nil}
use Rattle.std.proofs.lemmas.Option.{MatchOption-at_none}
use Rattle.std.specs.Prelude.{None, slice_get}
use Rattle.std.specs.Option.{option_to_list}
use Rattle.zp_ledger.proofs.Grouping.{none-past}
use Rattle.zp_ledger.proofs.conversations.add.Goals as goal

pub returns-in-None : goal.returns-in-None
returns-in-None c =
    let past : length c.args.lines.now ≤ c.args.place = MatchOption-at_none _ _ c.in-None.is c.get.ensures.lookup.3 in
    let none : slice_get c.args.lines.now c.args.place ≡ None = none-past c.args.lines.now c.args.place past in
    sym (append-nil c.args.own.now) ∙ ap (λ o. c.args.own.now ++ option_to_list o) (sym none)
