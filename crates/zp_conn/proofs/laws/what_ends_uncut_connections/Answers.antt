use Rattle.zp_conn.proofs.Uncutting.{uncut-ends}
use Rattle.zp_conn.proofs.laws.what_ends_uncut_connections.Goals as goal

pub returns : goal.returns
returns c = uncut-ends
