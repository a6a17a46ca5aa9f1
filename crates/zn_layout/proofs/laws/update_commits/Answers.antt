use Rattle.zn_layout.proofs.Commits.{committed}
use Rattle.zn_layout.proofs.laws.update_commits.Goals as goal

pub returns : goal.returns
returns c = committed
