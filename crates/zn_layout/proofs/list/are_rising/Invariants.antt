use Rattle.zn_layout.proofs.Rising.{AreRisingTo}
use Rattle.zn_layout.proofs.list.are_rising.Given as goal

abbrev pub invariant-loop-i : goal.invariant-loop-i
invariant-loop-i l = AreRisingTo l.i l.paths
