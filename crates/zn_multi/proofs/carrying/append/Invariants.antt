-- The triggers so far come after the others.
use Rattle.std.proofs.Common.{◌≡◌, ◌++◌}
use Rattle.zn_multi.proofs.carrying.append.Given as goal

abbrev pub invariant-loop-trigger : goal.invariant-loop-trigger
invariant-loop-trigger l = l.triggers ≡ l.fn.triggers ++ l.yielded
