use Rattle.std.proofs.Common.{[]}
use Rattle.zn_layout.specs.Keys.{hex_digits}
use Rattle.zn_layout.proofs.Digits.{AreWritten}
use Rattle.zn_layout.proofs.key.digits_of.Given as goal

abbrev pub invariant-loop-i : goal.invariant-loop-i
invariant-loop-i l = AreWritten l.n (hex_digits 15 l.n []) l.i l.rest l.digits
