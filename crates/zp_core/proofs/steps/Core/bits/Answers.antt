use Rattle.zw_watch.proofs.Hearing.{heard-by_all}
use Rattle.zp_core.proofs.steps.Core.bits.Goals as goal

pub returns-in-Waiting : goal.returns-in-Waiting
returns-in-Waiting c = heard-by_all c.args.self.now.watches
