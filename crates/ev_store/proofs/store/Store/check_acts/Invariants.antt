use Rattle.std.proofs.Common.{◌≡◌, drop}
use Rattle.ev_store.specs.FirstDenial.{acts_denial}
use Rattle.ev_store.proofs.store.Store.check_acts.Given as goal

abbrev pub invariant-loop-act : goal.invariant-loop-act
invariant-loop-act l = acts_denial l.self (drop l.act-index l.acts) ≡ acts_denial l.self l.acts
