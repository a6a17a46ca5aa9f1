use Rattle.zn_multi.proofs.Times.{stopped-always}
use Rattle.zn_multi.proofs.laws.refusals_do_not_depend_on_the_time.Goals as goal

pub returns : goal.returns
returns c = λ t limit id parts z y now other place code e. stopped-always limit id parts t z y now other place code e
