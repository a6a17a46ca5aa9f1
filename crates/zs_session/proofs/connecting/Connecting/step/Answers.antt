use Rattle.std.proofs.Common.{option_copied}
use Rattle.zs_session.proofs.Holding.{step-held, step-waits}
use Rattle.zs_session.proofs.connecting.Connecting.step.Goals as goal

pub invariant_of-self : goal.invariant_of-self
invariant_of-self c = step-held c.self.inside.connect c.in_ok-moved.moved.phase c.in_ok-moved.moved.step (option_copied c.args.answer) c.self.invariant c.in_ok-moved.ensures.ok

pub returns-clause-held : goal.returns-clause-held
returns-clause-held c = step-held c.self.inside.connect c.in_ok-moved.moved.phase c.in_ok-moved.moved.step (option_copied c.args.answer) c.self.invariant c.in_ok-moved.ensures.ok

pub returns-clause-waits : goal.returns-clause-waits
returns-clause-waits c = step-waits c.self.inside.connect c.in_ok-moved.moved.phase c.in_ok-moved.moved.step (option_copied c.args.answer) c.self.invariant c.in_ok-moved.ensures.ok
