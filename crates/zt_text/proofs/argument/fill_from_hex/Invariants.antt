use Rattle.zt_text.proofs.Digits.{IsFilled}
use Rattle.zt_text.proofs.argument.fill_from_hex.Given as goal

abbrev pub invariant-loop-at : goal.invariant-loop-at
invariant-loop-at l = IsFilled l.word l.at l.out
