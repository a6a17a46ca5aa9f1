-- Nothing is lacking.
use Rattle.std.proofs.Common.{arith}
use Rattle.zp_core.proofs.Nothing.{lacks-none}
use Rattle.zp_core.proofs.at_once.plan_on.Goals as goal

pub plan_decided-requires-clause-whole : goal.plan_decided-requires-clause-whole
plan_decided-requires-clause-whole c = lacks-none c.args.request.now c.args.who c.args.view.now c.in_ok-lacking.lacking (omega arith) c.in_ok-lacking.ensures
