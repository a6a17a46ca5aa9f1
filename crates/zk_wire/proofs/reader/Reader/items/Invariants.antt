use Rattle.std.proofs.Common.{◌≡◌, ◌-◌}
use Rattle.zk_jute.specs.JuteReading.{items_at}
use Rattle.zk_jute.proofs.Items.{with_front}
use Rattle.zk_wire.proofs.reader.Reader.items.Given as goal

abbrev pub invariant-loop : goal.invariant-loop
invariant-loop g l = with_front l.items.items (items_at g.T.Item.item_at (l.count - l.counter) l.self) ≡ items_at g.T.Item.item_at l.count l.fn.self
