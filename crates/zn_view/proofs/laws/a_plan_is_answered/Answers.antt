use Rattle.zn_view.proofs.Showing.{carried-out}
use Rattle.zn_view.proofs.Showing.{again-shown}
use Rattle.zn_view.proofs.laws.a_plan_is_answered.Goals as goal

pub returns-clause-failed : goal.returns-clause-failed
returns-clause-failed c = again-shown

pub returns-clause-succeeded : goal.returns-clause-succeeded
returns-clause-succeeded c = carried-out
