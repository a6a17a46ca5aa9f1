-- What a client is told can be sent: the length of each packet fits an `int`.
use Rattle.std.specs.List.{All}
use Rattle.zk_jute.specs.Packets.{CanBeSent, NoticeCanBeSent}
use Rattle.zk_service.specs.Answers.{Told}

pub record CanBeTold (t : Told) : Type 0 where
  pub reply : CanBeSent t.reply
  pub notices : All NoticeCanBeSent t.notices
