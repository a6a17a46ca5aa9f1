use Rattle.std.proofs.Common.{◌≡◌, drop}
use Rattle.zk_least.specs.LeastQueues.{is_front}
use Rattle.zk_judge.specs.Sent.{packets_in}
use Rattle.zk_judge.proofs.packets.is_front.Given as goal

abbrev pub invariant-loop-at : goal.invariant-loop-at
invariant-loop-at l = is_front (packets_in l.packets) l.queue ≡ is_front (packets_in l.left) (drop l.at l.queue)
