-- The connect of the clients, byte by byte.
use Rattle.std.proofs.Common.{◌≡◌, refl}
use Rattle.zk_jute.specs.JuteWriting.{int_bytes, long_bytes}
use Rattle.zp_clients.specs.declared.connect.TheConstants.{CONNECT}
use Rattle.zp_clients.specs.Wishes.{connect_packet}

pub connect_is : CONNECT ≡ connect_packet
unfolding connect_packet int_bytes long_bytes
connect_is = refl
