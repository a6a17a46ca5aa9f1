use Rattle.std.proofs.Common.{rules, arith, ◌≡◌, length, pos, ap, ◌∙◌, w32, w64, SFits}
use Rattle.std.proofs.lemmas.Int.{to_z-of_z}
use Rattle.zk_jute.specs.JuteWriting.{with_length}
use Rattle.zk_jute.specs.Packets.{reply_values, reply_bytes, reply_packet}
use Rattle.zk_jute.proofs.Lengths.{written_can, length-reply_bytes}
use Rattle.zk_wire.proofs.Puts.{frame_is}
use Rattle.zk_wire.proofs.packets.write_reply.Goals as goal

pub put_reply-requires : goal.put_reply-requires
put_reply-requires c =
    let xid : SFits w32 c.args.xid = search rules in
    let zxid : SFits w64 c.args.zxid = search rules in
    simp to_z-of_z (written_can (reply_values c.args.xid c.args.zxid c.args.reply.now) (omega (arith, length-reply_bytes c.args.xid c.args.zxid (pos 0) (pos 0) c.args.reply.now, c.requires)))

pub finish-requires : goal.finish-requires
finish-requires c =
    let xid : SFits w32 c.args.xid = search rules in
    let zxid : SFits w64 c.args.zxid = search rules in
    let put = simp to_z-of_z at c.in_ok-put_reply.ensures in
    let frame : c.put_reply.new.sink ≡ reply_bytes c.args.xid c.args.zxid c.args.reply.now = frame_is c.in_ok-packet.packet c.put_reply.new.sink (reply_values c.args.xid c.args.zxid c.args.reply.now) c.in_ok-packet.ensures put in
    omega (arith, ap length frame, length-reply_bytes c.args.xid c.args.zxid (pos 0) (pos 0) c.args.reply.now, c.requires)

pub returns : goal.returns
unfolding reply_packet
returns c =
    let xid : SFits w32 c.args.xid = search rules in
    let zxid : SFits w64 c.args.zxid = search rules in
    let put = simp to_z-of_z at c.in_ok-put_reply.ensures in
    let frame : c.put_reply.new.sink ≡ reply_bytes c.args.xid c.args.zxid c.args.reply.now = frame_is c.in_ok-packet.packet c.put_reply.new.sink (reply_values c.args.xid c.args.zxid c.args.reply.now) c.in_ok-packet.ensures put in
    c.finish.ensures ∙ ap with_length frame
