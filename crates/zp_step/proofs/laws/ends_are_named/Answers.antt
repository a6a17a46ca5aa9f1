use Rattle.zp_step.proofs.Shutting.{ends-named}
use Rattle.zp_step.proofs.laws.ends_are_named.Goals as goal

pub returns : goal.returns
returns c = ends-named
