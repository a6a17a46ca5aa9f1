use Rattle.zk_jute.specs.Packets.{notice_bytes, notice_packet}
use Rattle.zk_jute.proofs.RoundTrips.{packet_framed}
use Rattle.zk_jute.proofs.SentLaws.{notice_spelled, one_notice}
use Rattle.zk_jute.proofs.laws.notices_are_spelled.Goals as goal

pub returns-clause-framed : goal.returns-clause-framed
unfolding notice_packet
returns-clause-framed c = λ notice within. packet_framed (notice_bytes notice) within

pub returns-clause-spelled : goal.returns-clause-spelled
returns-clause-spelled c = notice_spelled

pub returns-clause-one : goal.returns-clause-one
returns-clause-one c = one_notice
