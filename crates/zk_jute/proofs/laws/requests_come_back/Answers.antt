use Rattle.zk_jute.specs.Sending.{request_bytes, request_packet}
use Rattle.zk_jute.proofs.RoundTrips.{packet_framed, request_comes_back}
use Rattle.zk_jute.proofs.laws.requests_come_back.Goals as goal

pub returns-clause-framed : goal.returns-clause-framed
unfolding request_packet
returns-clause-framed c = λ xid request within. packet_framed (request_bytes xid request) within

pub returns-clause-read : goal.returns-clause-read
returns-clause-read c = request_comes_back
