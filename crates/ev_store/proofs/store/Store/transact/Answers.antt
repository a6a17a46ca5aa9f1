use Rattle.std.proofs.Common.{List, ap, ◌∙◌}
use Rattle.ev_types.specs.declared.ask.Act.{Act}
use Rattle.ev_types.specs.Denials.{writes_twice}
use Rattle.ev_store.proofs.Denying.{chosen_once}
use Rattle.ev_store.proofs.store.Store.transact.Goals as goal

pub work-requires : goal.work-requires
work-requires c = ap (λ (acts : List Act). writes_twice acts) c.chosen-acts.ensures ∙ chosen_once c.args.txn.now c.all_hold-succeeded.result c.in_ok-check_txn.ensures.none
