use Rattle.std.proofs.Common.{take}
use Rattle.zk_legal.specs.Passwords.{OfferPasswords}
use Rattle.zk_judge.proofs.index.see_passwords.Given as goal

abbrev pub invariant-loop-line : goal.invariant-loop-line
invariant-loop-line l = OfferPasswords (take l.line-index l.lines)
