use Rattle.zn_view.proofs.AsSeen.{unchanged-holds}
use Rattle.zn_view.proofs.AsSeen.{commits-as_seen}
use Rattle.zn_view.proofs.AsSeen.{agrees-as_seen}
use Rattle.zn_view.proofs.laws.guarded_keys_are_as_seen.Goals as goal

pub returns-clause-agrees : goal.returns-clause-agrees
returns-clause-agrees c = agrees-as_seen

pub returns-clause-commits : goal.returns-clause-commits
returns-clause-commits c = commits-as_seen

pub returns-clause-hold : goal.returns-clause-hold
returns-clause-hold c = unchanged-holds
