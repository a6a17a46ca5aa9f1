use Rattle.zk_judge.proofs.HeaderBytes.{code_bytes}
use Rattle.zk_judge.proofs.packets.code_bytes.Goals as goal

pub returns : goal.returns
returns c = code_bytes c.args.packet.now _ _ _ _ c.byte_at.ensures c.byte_at-2.ensures c.byte_at-3.ensures c.byte_at-4.ensures
