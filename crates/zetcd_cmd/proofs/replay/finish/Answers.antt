use Rattle.std.proofs.Common.{ap}
use Rattle.zetcd_cmd.specs.declared.report.End.TheVariants as end
use Rattle.zetcd_cmd.proofs.replay.finish.Goals as goal

pub returns-in-Err-clause-grown : goal.returns-in-Err-clause-grown
returns-in-Err-clause-grown c = λ known. c.in-Err.ensures.kept (λ is. known (ap end.Stopped is))
