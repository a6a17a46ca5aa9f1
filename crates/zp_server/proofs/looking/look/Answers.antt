use Rattle.zp_server.proofs.Looks.{found_open}
use Rattle.zp_server.proofs.looking.look.Goals as goal

pub returns-in-None : goal.returns-in-None
returns-in-None c = found_open _ _ _ c.in-None.ensures.once c.in-None.ensures.answer c.in-None.ensures.closings
