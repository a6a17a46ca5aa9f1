-- The keys so far come after the others.
use Rattle.std.proofs.Common.{◌≡◌, ◌++◌}
use Rattle.zn_multi.proofs.reading.push_all.Given as goal

abbrev pub invariant-loop-key : goal.invariant-loop-key
invariant-loop-key l = l.keys ≡ l.fn.keys ++ l.yielded
