use Rattle.std.proofs.Common.{◌≡◌, length}
use Rattle.zk_least.specs.LeastWalk.{next_reply}
use Rattle.zk_judge.specs.Sent.{packets_in}
use Rattle.zk_judge.proofs.packets.next_reply.Given as goal

abbrev pub invariant-packets : goal.invariant-packets
invariant-packets l = next_reply (packets_in l.fn.packets) ≡ next_reply (packets_in l.left)

abbrev pub decreases-packets : goal.decreases-packets
decreases-packets l = length (packets_in l.left)
