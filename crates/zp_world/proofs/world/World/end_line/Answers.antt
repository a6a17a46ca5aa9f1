use Rattle.std.proofs.Common.{sym, ◌∙◌}
use Rattle.zp_world.proofs.Refusing.{refuses, end-line}
use Rattle.zp_world.proofs.world.World.end_line.Goals as goal

pub returns-in-Some : goal.returns-in-Some
returns-in-Some c = refuses _ _ c.in-Some.why c.refused.result (end-line c.args.self.now c.args.connection ∙ sym c.connection_why.ensures ∙ c.in-Some.is) c.refused.ensures

pub end-requires : goal.end-requires
end-requires c = end-line c.args.self.now c.args.connection ∙ sym c.connection_why.ensures ∙ c.in-None.is

pub returns-in_ok-end-in-None : goal.returns-in_ok-end-in-None
returns-in_ok-end-in-None c = record { possible = end-line c.args.self.now c.args.connection ∙ sym c.connection_why.ensures ∙ c.in-None.is; effect = c.in_ok-end-in-None.ensures }
