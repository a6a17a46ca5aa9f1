use Rattle.zn_ops.proofs.Planning.{planned-where, planned-update}
use Rattle.zn_ops.proofs.laws.planned_where_not_refused.Goals as goal

pub returns-clause-planned : goal.returns-clause-planned
returns-clause-planned c = planned-where

pub returns-clause-update : goal.returns-clause-update
returns-clause-update c = planned-update
