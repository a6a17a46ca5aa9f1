use Rattle.std.proofs.Common.{refl}
use Rattle.std.proofs.Math.ListN.{replicate}
use Rattle.zw_watch.proofs.Counting.{none_shown, zero_at}
use Rattle.zw_watch.proofs.counts.Counts.new.Goals as goal

pub invariant_of-result : goal.invariant_of-result
invariant_of-result c = none_shown (replicate 64 0) refl

pub returns : goal.returns
returns c = zero_at (replicate 64 0) refl
