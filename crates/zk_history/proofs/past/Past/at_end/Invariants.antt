use Rattle.std.proofs.Common.{◌≡◌}
use Rattle.zk_history.proofs.past.Past.at_end.Given as goal

abbrev pub invariant-loop-place : goal.invariant-loop-place
invariant-loop-place l = record {
  place : l.past.len ≡ l._place;
  over : l.past.all.now ≡ l.all;
}
