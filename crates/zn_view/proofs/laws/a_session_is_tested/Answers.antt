use Rattle.zn_view.proofs.Tested.{tree-decides}
use Rattle.zn_view.proofs.Tested.{moved-decides}
use Rattle.zn_view.proofs.Tested.{expired-decides}
use Rattle.zn_view.proofs.Tested.{form-decides}
use Rattle.zn_view.proofs.laws.a_session_is_tested.Goals as goal

pub returns-clause-form : goal.returns-clause-form
returns-clause-form c = form-decides

pub returns-clause-expired : goal.returns-clause-expired
returns-clause-expired c = expired-decides

pub returns-clause-moved : goal.returns-clause-moved
returns-clause-moved c = moved-decides

pub returns-clause-tree : goal.returns-clause-tree
returns-clause-tree c = tree-decides
