-- What actions in a row send.
use Rattle.std.proofs.Common.{◌≡◌, List, ◌++◌}
use Rattle.std.proofs.lemmas.List.Elements.{filter_map-append}
use Rattle.zp_step.specs.declared.action.Action.{Action}
use Rattle.zp_step.specs.Ending.{sends, sent_in}

pub sends-append : (xs ys : List Action) → sends (xs ++ ys) ≡ sends xs ++ sends ys
sends-append xs ys = filter_map-append sent_in xs ys
