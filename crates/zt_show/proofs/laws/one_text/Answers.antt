use Rattle.zt_show.proofs.OneText.{some_shown, one_shown}
use Rattle.zt_show.proofs.laws.one_text.Goals as goal

pub returns-clause-some : goal.returns-clause-some
returns-clause-some c = some_shown

pub returns-clause-only : goal.returns-clause-only
returns-clause-only c = one_shown
