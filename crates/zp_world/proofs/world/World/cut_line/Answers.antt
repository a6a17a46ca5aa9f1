use Rattle.std.proofs.Common.{sym, ◌∙◌}
use Rattle.zp_world.proofs.Refusing.{refuses, cut-line}
use Rattle.zp_world.proofs.world.World.cut_line.Goals as goal

pub returns-in-Some : goal.returns-in-Some
returns-in-Some c = refuses _ _ c.in-Some.why c.refused.result (cut-line c.args.self.now c.args.connection ∙ sym c.ask_why.ensures ∙ c.in-Some.is) c.refused.ensures

pub fail-requires : goal.fail-requires
fail-requires c = sym c.ask_why.ensures ∙ c.in-None.is

pub returns-in_ok-fail-in-None : goal.returns-in_ok-fail-in-None
returns-in_ok-fail-in-None c = record { possible = cut-line c.args.self.now c.args.connection ∙ sym c.ask_why.ensures ∙ c.in-None.is; effect = c.in_ok-fail-in-None.ensures }
