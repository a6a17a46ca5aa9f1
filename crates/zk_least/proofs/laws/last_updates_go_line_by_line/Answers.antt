use Rattle.zk_least.proofs.LastUpdates.{last-update-law}
use Rattle.zk_least.proofs.laws.last_updates_go_line_by_line.Goals as goal

pub returns : goal.returns
returns c = last-update-law
