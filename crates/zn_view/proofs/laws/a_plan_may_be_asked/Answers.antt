use Rattle.zn_view.proofs.Asked.{stands-put}
use Rattle.zn_view.proofs.Asked.{plan-asked}
use Rattle.zn_view.proofs.laws.a_plan_may_be_asked.Goals as goal

pub returns-clause-asked : goal.returns-clause-asked
returns-clause-asked c = plan-asked

pub returns-clause-put : goal.returns-clause-put
returns-clause-put c = stands-put
