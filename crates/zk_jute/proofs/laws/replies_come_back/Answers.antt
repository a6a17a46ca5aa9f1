use Rattle.zk_jute.specs.Packets.{reply_bytes, reply_packet}
use Rattle.zk_jute.proofs.RoundTrips.{packet_framed, reply_comes_back}
use Rattle.zk_jute.proofs.laws.replies_come_back.Goals as goal

pub returns-clause-framed : goal.returns-clause-framed
unfolding reply_packet
returns-clause-framed c = λ xid zxid reply within. packet_framed (reply_bytes xid zxid reply) within

pub returns-clause-read : goal.returns-clause-read
returns-clause-read c = reply_comes_back
