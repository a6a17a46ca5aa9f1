use Rattle.zk_jute.proofs.ReplyLaws.{found, only, one}
use Rattle.zk_jute.proofs.laws.replies_are_spelled.Goals as goal

pub returns-clause-found : goal.returns-clause-found
returns-clause-found c = found

pub returns-clause-only : goal.returns-clause-only
returns-clause-only c = only

pub returns-clause-one : goal.returns-clause-one
returns-clause-one c = one
