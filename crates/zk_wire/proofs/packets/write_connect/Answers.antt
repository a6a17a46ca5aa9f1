use Rattle.std.proofs.Common.{rules, arith, ◌≡◌, length, ap, ◌∙◌}
use Rattle.zk_jute.specs.Connects.{connect_response_values}
use Rattle.zk_jute.specs.JuteWriting.{written, with_length}
use Rattle.zk_jute.specs.Packets.{connect_packet}
use Rattle.zk_jute.proofs.Lengths.{written_can, connect_short}
use Rattle.zk_wire.proofs.Puts.{frame_is}
use Rattle.zk_wire.proofs.packets.write_connect.Goals as goal

pub put_connect-requires : goal.put_connect-requires
put_connect-requires c = written_can (connect_response_values c.args.response.now) (connect_short c.args.response.now (search rules))

pub finish-requires : goal.finish-requires
finish-requires c =
    let frame : c.put_connect.new.sink ≡ written (connect_response_values c.args.response.now) = frame_is c.in_ok-packet.packet c.put_connect.new.sink (connect_response_values c.args.response.now) c.in_ok-packet.ensures c.in_ok-put_connect.ensures in
    omega (arith, ap length frame, connect_short c.args.response.now (search rules))

pub returns : goal.returns
unfolding connect_packet
returns c =
    let frame : c.put_connect.new.sink ≡ written (connect_response_values c.args.response.now) = frame_is c.in_ok-packet.packet c.put_connect.new.sink (connect_response_values c.args.response.now) c.in_ok-packet.ensures c.in_ok-put_connect.ensures in
    c.finish.ensures ∙ ap with_length frame
