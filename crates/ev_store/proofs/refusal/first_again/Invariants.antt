use Rattle.std.proofs.Common.{◌≡◌, drop}
use Rattle.ev_store.specs.FirstDenial.{first_again}
use Rattle.ev_store.proofs.refusal.first_again.Given as goal

abbrev pub invariant-loop-index : goal.invariant-loop-index
invariant-loop-index l = first_again (drop l.index l.acts) ≡ first_again l.acts
