use Rattle.zk_jute.specs.Packets.{connect_bytes, connect_packet}
use Rattle.zk_jute.proofs.Lengths.{connect_within}
use Rattle.zk_jute.proofs.RoundTrips.{packet_framed}
use Rattle.zk_jute.proofs.SentLaws.{connect_response_spelled, one_connect_response}
use Rattle.zk_jute.proofs.laws.connect_responses_are_spelled.Goals as goal

pub returns-clause-framed : goal.returns-clause-framed
unfolding connect_packet
returns-clause-framed c = λ response sixteen. packet_framed (connect_bytes response) (connect_within response sixteen)

pub returns-clause-spelled : goal.returns-clause-spelled
returns-clause-spelled c = connect_response_spelled

pub returns-clause-one : goal.returns-clause-one
returns-clause-one c = one_connect_response
