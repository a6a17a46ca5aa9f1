use Rattle.zk_judge.proofs.HeaderBytes.{zxid_bytes}
use Rattle.zk_judge.proofs.packets.zxid_bytes.Goals as goal

pub returns : goal.returns
returns c = zxid_bytes c.args.packet.now _ _ _ _ _ _ _ _ c.byte_at.ensures c.byte_at-2.ensures c.byte_at-3.ensures c.byte_at-4.ensures c.byte_at-5.ensures c.byte_at-6.ensures c.byte_at-7.ensures c.byte_at-8.ensures
