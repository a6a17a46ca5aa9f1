use Rattle.zp_server.proofs.Heads.{making_grantable}
use Rattle.zp_server.proofs.begin.make.Goals as goal

pub ask-requires : goal.ask-requires
ask-requires g c = making_grantable _ _ c.in-Ok.ensures
