-- What was taken, and what is left.
use Rattle.zn_view.proofs.Added.{IsTaken}
use Rattle.zn_view.proofs.view.View.take_all.Given as goal

abbrev pub invariant-loop-i : goal.invariant-loop-i
invariant-loop-i l = IsTaken l.fn.self l.wants l.parts l.self l.i
