use Rattle.std.proofs.Common.{rules, arith, ◌≡◌, length, pos, ap, ◌∙◌, w32, SFits}
use Rattle.std.proofs.lemmas.Int.{to_z-of_z}
use Rattle.zk_jute.specs.JuteWriting.{with_length}
use Rattle.zk_jute.specs.Sending.{request_values, request_bytes, request_packet}
use Rattle.zk_jute.proofs.Lengths.{written_can, length-request_bytes}
use Rattle.zk_wire.proofs.Puts.{frame_is}
use Rattle.zk_wire.proofs.packets.write_request.Goals as goal

pub put_request-requires : goal.put_request-requires
put_request-requires c =
    written_can (request_values c.args.xid c.args.request.now) (omega (arith, length-request_bytes c.args.xid (pos 0) c.args.request.now, c.requires))

pub finish-requires : goal.finish-requires
finish-requires c =
    let xid : SFits w32 c.args.xid = search rules in
    let put = simp to_z-of_z at c.in_ok-put_request.ensures in
    let frame : c.put_request.new.sink ≡ request_bytes c.args.xid c.args.request.now = frame_is c.in_ok-packet.packet c.put_request.new.sink (request_values c.args.xid c.args.request.now) c.in_ok-packet.ensures put in
    omega (arith, ap length frame, length-request_bytes c.args.xid (pos 0) c.args.request.now, c.requires)

pub returns : goal.returns
unfolding request_packet
returns c =
    let xid : SFits w32 c.args.xid = search rules in
    let put = simp to_z-of_z at c.in_ok-put_request.ensures in
    let frame : c.put_request.new.sink ≡ request_bytes c.args.xid c.args.request.now = frame_is c.in_ok-packet.packet c.put_request.new.sink (request_values c.args.xid c.args.request.now) c.in_ok-packet.ensures put in
    c.finish.ensures ∙ ap with_length frame
