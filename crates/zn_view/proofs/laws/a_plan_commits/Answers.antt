use Rattle.zn_view.proofs.Committing.{plan-commits}
use Rattle.zn_view.proofs.laws.a_plan_commits.Goals as goal

pub returns : goal.returns
returns c = plan-commits
