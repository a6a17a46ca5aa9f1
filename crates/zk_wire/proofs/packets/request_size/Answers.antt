use Rattle.std.proofs.Common.{pos, ◌∙◌}
use Rattle.zk_jute.specs.Sending.{request_values}
use Rattle.zk_wire.proofs.Puts.{size_is}
use Rattle.zk_wire.proofs.packets.request_size.Goals as goal

pub returns : goal.returns
returns c = c.bytes.ensures ∙ size_is c.new-size.result c.put_request.new.sink (request_values (pos 0) c.args.request.now) c.new-size.ensures c.in-Ok.ensures
