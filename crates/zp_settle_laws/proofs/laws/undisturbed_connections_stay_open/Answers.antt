use Rattle.zp_settle_laws.proofs.Undisturbed.{undisturbed-stay-open}
use Rattle.zp_settle_laws.proofs.laws.undisturbed_connections_stay_open.Goals as goal

pub returns : goal.returns
returns c = undisturbed-stay-open
