use Rattle.std.proofs.Common.{rules}
use Rattle.zn_layout.proofs.Sessions.{none_within}
use Rattle.zs_session.proofs.txns.put_no_nodes.Goals as goal

pub write_session-requires : goal.write_session-requires
write_session-requires c = none_within _ (search rules)
