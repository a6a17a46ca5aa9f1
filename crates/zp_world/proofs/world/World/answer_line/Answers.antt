use Rattle.std.proofs.Common.{sym, ◌∙◌}
use Rattle.zp_world.proofs.Refusing.{refuses, answer-line}
use Rattle.zp_world.proofs.world.World.answer_line.Goals as goal

pub returns-in-Some : goal.returns-in-Some
returns-in-Some c = refuses _ _ c.in-Some.why c.refused.result (answer-line c.args.self.now c.args.connection ∙ sym c.answer_why.ensures ∙ c.in-Some.is) c.refused.ensures

pub deliver-requires : goal.deliver-requires
deliver-requires c = answer-line c.args.self.now c.args.connection ∙ sym c.answer_why.ensures ∙ c.in-None.is

pub returns-in_ok-deliver-in-None : goal.returns-in_ok-deliver-in-None
returns-in_ok-deliver-in-None c = record { possible = answer-line c.args.self.now c.args.connection ∙ sym c.answer_why.ensures ∙ c.in-None.is; effect = c.in_ok-deliver-in-None.ensures }
