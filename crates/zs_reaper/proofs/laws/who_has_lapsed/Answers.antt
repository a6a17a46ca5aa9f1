use Rattle.zs_reaper.proofs.Lapsing.{lapsed_is_open, lapsed_lives_not}
use Rattle.zs_reaper.proofs.laws.who_has_lapsed.Goals as goal

pub returns-clause-opened : goal.returns-clause-opened
returns-clause-opened c = lapsed_is_open

pub returns-clause-dead : goal.returns-clause-dead
returns-clause-dead c = lapsed_lives_not
