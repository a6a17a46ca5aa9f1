use Rattle.std.proofs.Common.{rules, tests, lit<}
use Rattle.std.proofs.lemmas.Iterator.{YieldsList-from_take}
use Rattle.std.proofs.lemmas.Iterator.Consumers.{YieldsList-at, YieldsList-from_filter, nth_from_yields_List}
use Rattle.std.proofs.lemmas.Iterator.Splits.{YieldsList-from_str_split}
use Rattle.ev_addresses.specs.Lists.{is_part}
use Rattle.ev_addresses.proofs.lists.named_at.Goals as goal

pub returns : goal.returns
returns c =
    nth_from_yields_List _ _ c.args.index c.nth.ensures.ran
    (YieldsList-from_take 5
    (YieldsList-at c.take.ensures.source (YieldsList-from_filter _ is_part (YieldsList-from_str_split 44 c.args.text.now (lit< tt) (cc) (cc) (cc)) c.filter.ensures.closure (λ x r q k. search (rules, tests)))) c.take.ensures.count)
