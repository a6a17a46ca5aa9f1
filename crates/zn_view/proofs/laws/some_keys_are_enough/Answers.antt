use Rattle.zn_view.proofs.Narrowing.{asked-found, narrowed-agrees, narrowed-plan, narrowed-shows}
use Rattle.zn_view.proofs.laws.some_keys_are_enough.Goals as goal

pub returns-clause-shown : goal.returns-clause-shown
returns-clause-shown c = narrowed-shows

pub returns-clause-agrees : goal.returns-clause-agrees
returns-clause-agrees c = narrowed-agrees

pub returns-clause-plan : goal.returns-clause-plan
returns-clause-plan c = narrowed-plan

pub returns-clause-found : goal.returns-clause-found
returns-clause-found c = asked-found
