-- What fired so far, and the changes that are left.
use Rattle.std.proofs.Common.{drop}
use Rattle.zp_core.proofs.Firing.{Fires}
use Rattle.zp_core.proofs.entries.fire_all.Given as goal

abbrev pub invariant-loop-trigger : goal.invariant-loop-trigger
invariant-loop-trigger l = Fires l.initial.watches l.triggers l.watches l.notices (drop l.trigger-index l.triggers)
