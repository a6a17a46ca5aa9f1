use Rattle.std.proofs.Common.{sym, subst}
use Rattle.zk_jute.specs.Sending.{RequestCanBeSent}
use Rattle.zp_clients.proofs.Sizes.{sendable}
use Rattle.zp_clients.proofs.wish.packet_of.Goals as goal

pub write_request-requires : goal.write_request-requires
write_request-requires c = subst RequestCanBeSent (sym c.in_ok-request.ensures) (sendable c.args.wish c.args.number)
