use Rattle.std.proofs.Common.{sym, subst}
use Rattle.zk_jute.specs.Packets.{NoticeCanBeSent}
use Rattle.zk_model.specs.declared.reply.Notice.{Notice}
use Rattle.zk_judge.proofs.packets.add_notices.Goals as goal

pub notice_packet-requires : goal.notice_packet-requires
notice_packet-requires c = subst (λ (n : Notice). NoticeCanBeSent n) (sym c.notice-item.is) (c.requires c.loop-notice.notice-index _ c.loop-notice-test.true)
