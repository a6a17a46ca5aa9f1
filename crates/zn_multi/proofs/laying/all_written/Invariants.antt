-- What is written of the keys so far.
use Rattle.std.proofs.Common.{◌≡◌}
use Rattle.zn_multi.specs.Laying.{written_acts}
use Rattle.zn_multi.proofs.laying.all_written.Given as goal

abbrev pub invariant-loop-laid : goal.invariant-loop-laid
invariant-loop-laid l = l.acts ≡ written_acts l.view l.yielded
