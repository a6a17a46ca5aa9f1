use Rattle.zk_jute.specs.Sending.{whole_part, header_values}
use Rattle.std.proofs.Common.{negsuc, true}
use Rattle.zk_jute.proofs.Lists.{item_can}
use Rattle.zk_wire.proofs.request_fields.put_parts.Goals as goal

pub put_part-requires : goal.put_part-requires
put_part-requires g c = rw c.part-item.is (item_can g.S.FieldSink.can_put whole_part c.args.parts.now (header_values (negsuc 0) true) c.requires c.loop-part.part-index _ c.loop-part-test.true)
