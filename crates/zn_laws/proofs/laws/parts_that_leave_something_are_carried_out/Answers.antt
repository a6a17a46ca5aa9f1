use Rattle.zn_laws.proofs.Passing.{left_passes}
use Rattle.zn_laws.proofs.laws.parts_that_leave_something_are_carried_out.Goals as goal

pub returns : goal.returns
returns c = λ id now v before changes s z x left short sound shown opened. left_passes z v s shown id x opened sound now before changes left short
