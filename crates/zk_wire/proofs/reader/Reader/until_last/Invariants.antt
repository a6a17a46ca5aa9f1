use Rattle.std.proofs.Common.{length}
use Rattle.zk_jute.specs.JuteReading.{all_until_last}
use Rattle.zk_jute.proofs.Items.{Goes}
use Rattle.zk_wire.proofs.reader.Reader.until_last.Given as goal

abbrev pub invariant-loop-items : goal.invariant-loop-items
invariant-loop-items g l = Goes g.T.Listed.next_at l.items.items l.self (all_until_last g.T.Listed.next_at l.fn.self)

abbrev pub decreases-loop-items : goal.decreases-loop-items
decreases-loop-items g l = length l.self
