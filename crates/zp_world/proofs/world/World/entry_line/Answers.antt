use Rattle.std.proofs.Common.{sym, ◌∙◌}
use Rattle.zp_world.proofs.Refusing.{refuses, entry-line}
use Rattle.zp_world.proofs.world.World.entry_line.Goals as goal

pub returns-in-Some : goal.returns-in-Some
returns-in-Some c = refuses _ _ c.in-Some.why c.refused.result (entry-line c.args.self.now c.args.connection ∙ sym c.entry_why.ensures ∙ c.in-Some.is) c.refused.ensures

pub enter-requires : goal.enter-requires
enter-requires c = entry-line c.args.self.now c.args.connection ∙ sym c.entry_why.ensures ∙ c.in-None.is

pub returns-in_ok-enter-in-None : goal.returns-in_ok-enter-in-None
returns-in_ok-enter-in-None c = record { possible = entry-line c.args.self.now c.args.connection ∙ sym c.entry_why.ensures ∙ c.in-None.is; effect = c.in_ok-enter-in-None.ensures }
