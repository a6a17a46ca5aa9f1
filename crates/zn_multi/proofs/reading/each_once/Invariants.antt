-- Each of the keys so far once.
use Rattle.std.proofs.Common.{◌≡◌}
use Rattle.zn_multi.specs.Reading.{each_new}
use Rattle.zn_multi.proofs.reading.each_once.Given as goal

abbrev pub invariant-loop-key : goal.invariant-loop-key
invariant-loop-key l = l.once ≡ each_new l.yielded
