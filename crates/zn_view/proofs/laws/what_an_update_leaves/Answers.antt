use Rattle.std.proofs.Common.{Some, refl}
use Rattle.zn_view.proofs.After.{after-agrees, after-is}
use Rattle.zn_view.proofs.Guarded.{plan-leaves}
use Rattle.zn_view.proofs.laws.what_an_update_leaves.Goals as goal

pub returns-clause-left : goal.returns-clause-left
returns-clause-left c = λ v guards acts z head x h. after-is v x guards acts z head (Some x) refl h

pub returns-clause-keys : goal.returns-clause-keys
returns-clause-keys c = after-agrees

pub returns-clause-plan : goal.returns-clause-plan
returns-clause-plan c = plan-leaves
