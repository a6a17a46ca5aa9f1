use Rattle.std.proofs.Common.{◌≡◌, [], take, drop}
use Rattle.zk_service.specs.States.{nothing_yet}
use Rattle.zk_legal.specs.Counted.{AreCounts}
use Rattle.zk_legal.specs.Faults.{IsRunTo, history_fault_from}
use Rattle.zk_legal.proofs.history.first_fault.Given as goal

abbrev pub invariant-loop-place : goal.invariant-loop-place
invariant-loop-place l = record {
  fault : history_fault_from [] nothing_yet l.lines ≡ history_fault_from (take l.place l.lines) l.state (drop l.place l.lines);
  run : IsRunTo (take l.place l.lines) l.state;
  counts : AreCounts (take l.place l.lines) l.counts;
  place : l.past.len ≡ l.place;
  over : l.past.all.now ≡ l.lines;
}
