use Rattle.std.proofs.Common.{pos, ◌∙◌}
use Rattle.zk_jute.specs.Packets.{reply_values}
use Rattle.zk_wire.proofs.Puts.{size_is}
use Rattle.zk_wire.proofs.packets.reply_size.Goals as goal

pub returns : goal.returns
returns c = c.bytes.ensures ∙ size_is c.new-size.result c.put_reply.new.sink (reply_values (pos 0) (pos 0) c.args.reply.now) c.new-size.ensures c.in-Ok.ensures
