use Rattle.zp_settle_laws.proofs.Replied.{every-settle-answers}
use Rattle.zp_settle_laws.proofs.laws.every_settle_answers.Goals as goal

pub returns : goal.returns
returns c = every-settle-answers
