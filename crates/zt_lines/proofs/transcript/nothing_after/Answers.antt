use Rattle.std.proofs.Common.{arith}
use Rattle.std.proofs.lemmas.Grind.{common_steps}
use Rattle.zt_lines.proofs.LineLaws.{nothing_after-some}
use Rattle.zt_lines.proofs.transcript.nothing_after.Goals as goal

pub returns-clause-err : goal.returns-clause-err
returns-clause-err c = nothing_after-some c.args.is_cut c.args.number c.args.after.now (grind (arith, common_steps))
