use Rattle.std.proofs.Common.{◌≡◌, [], take, drop}
use Rattle.zk_legal.specs.Counted.{AreLasts}
use Rattle.zk_legal.specs.Faults.{order_fault_from}
use Rattle.zk_legal.proofs.order.order_fault.Given as goal

abbrev pub invariant-loop-place : goal.invariant-loop-place
invariant-loop-place l = record {
  fault : order_fault_from [] l.lines ≡ order_fault_from (take l.place l.lines) (drop l.place l.lines);
  lasts : AreLasts (take l.place l.lines) l.lasts;
}
