use Rattle.zk_legal.proofs.ShortUpdates.{response-short, triggers-short}
use Rattle.zk_legal.proofs.laws.updates_without_fault_are_short.Goals as goal

pub returns-clause-triggers : goal.returns-clause-triggers
returns-clause-triggers c = λ lines k u none at. triggers-short lines k u none at

pub returns-clause-response : goal.returns-clause-response
returns-clause-response c = λ lines k i j now u x none at is done. response-short lines k u none at i j now x is done
