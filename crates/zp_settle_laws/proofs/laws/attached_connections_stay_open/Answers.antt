use Rattle.zp_settle_laws.proofs.Arriving.{frames-leave-open}
use Rattle.zp_settle_laws.proofs.Open.{settles-open}
use Rattle.zp_settle_laws.proofs.laws.attached_connections_stay_open.Goals as goal

pub returns : goal.returns
returns c = record { settle = settles-open; frames = frames-leave-open }
