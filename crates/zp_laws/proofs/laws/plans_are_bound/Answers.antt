use Rattle.zp_laws.proofs.Asking.{plans_are_bound}
use Rattle.zp_laws.proofs.laws.plans_are_bound.Goals as goal

pub returns : goal.returns
returns c = λ store lines conn d d' w looked now x out a ready steps there. plans_are_bound store lines conn d d' w looked now out a x ready steps there
