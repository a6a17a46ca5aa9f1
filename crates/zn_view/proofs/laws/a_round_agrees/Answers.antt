use Rattle.zn_view.proofs.Showing.{later-shown}
use Rattle.zn_view.proofs.Showing.{first-shown}
use Rattle.zn_view.proofs.laws.a_round_agrees.Goals as goal

pub returns-clause-first : goal.returns-clause-first
returns-clause-first c = first-shown

pub returns-clause-later : goal.returns-clause-later
returns-clause-later c = later-shown
