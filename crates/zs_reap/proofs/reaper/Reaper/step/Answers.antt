use Rattle.std.proofs.Common.{option_copied}
use Rattle.zs_reap.proofs.Waiting.{step-waits}
use Rattle.zs_reap.proofs.reaper.Reaper.step.Goals as goal

pub returns-clause-waits : goal.returns-clause-waits
returns-clause-waits c = step-waits c.in_ok-moved.moved.phase c.in_ok-moved.moved.step c.self.inside.reap (option_copied c.args.answer) c.in_ok-moved.ensures.ok
