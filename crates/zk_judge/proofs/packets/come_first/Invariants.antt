use Rattle.std.proofs.Common.{◌≡◌, ◌≤◌, drop, length}
use Rattle.zk_least.specs.LeastWalk.{rest_after}
use Rattle.zk_judge.specs.Sent.{packets_in}
use Rattle.zk_judge.proofs.packets.come_first.Given as goal

abbrev pub invariant-loop-wanted : goal.invariant-loop-wanted
invariant-loop-wanted l = record {
  rest : rest_after l.due (packets_in l.packets) ≡ rest_after (drop l.wanted-index l.due) (packets_in l.left);
  left : packets_in l.left ≡ drop l.wanted-index (packets_in l.packets);
  within : l.wanted-index ≤ length (packets_in l.packets);
  few : l.wanted-index ≤ length l.due;
}
