use Rattle.std.proofs.Common.{◌≡◌, ap, ◌∙◌}
use Rattle.zk_jute.specs.JuteWriting.{written, with_length}
use Rattle.zk_jute.specs.Packets.{notice_values, notice_packet}
use Rattle.zk_wire.proofs.Puts.{frame_is}
use Rattle.zk_wire.proofs.packets.write_notice.Goals as goal

pub returns : goal.returns
unfolding notice_packet
returns c =
    let frame : c.put_notice.new.sink ≡ written (notice_values c.args.notice.now) = frame_is c.in_ok-packet.packet c.put_notice.new.sink (notice_values c.args.notice.now) c.in_ok-packet.ensures c.in_ok-put_notice.ensures in
    c.finish.ensures ∙ ap with_length frame
