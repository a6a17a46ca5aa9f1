use Rattle.zp_server.proofs.Striking.{none_left}
use Rattle.zp_server.proofs.desk.Desk.is_idle.Goals as goal

pub returns : goal.returns
returns c = λ yes. none_left _ _ _ c.as_slice.ensures.value c.is_empty.ensures yes
