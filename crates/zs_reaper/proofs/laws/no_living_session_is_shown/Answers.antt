use Rattle.zs_reaper.proofs.Lapsing.{no_living_is_lapsed}
use Rattle.zs_reaper.proofs.laws.no_living_session_is_shown.Goals as goal

pub returns : goal.returns
returns c = no_living_is_lapsed
