-- It has no test.
use Rattle.std.proofs.Common.{refl}
use Rattle.zp_script.specs.Faults.{fault}
use Rattle.zp_script.proofs.laws.restarts_are_always_possible.Goals as goal

pub returns : goal.returns
unfolding fault
returns c = λ w p. refl
