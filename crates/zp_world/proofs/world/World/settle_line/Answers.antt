use Rattle.std.proofs.Common.{sym, ◌∙◌}
use Rattle.zp_world.proofs.Refusing.{refuses, settle-line}
use Rattle.zp_world.proofs.world.World.settle_line.Goals as goal

pub returns-in-Some : goal.returns-in-Some
returns-in-Some c = refuses _ _ c.in-Some.why c.refused.result (settle-line c.args.self.now c.args.connection ∙ sym c.open_why.ensures ∙ c.in-Some.is) c.refused.ensures

pub settle-requires : goal.settle-requires
settle-requires c = settle-line c.args.self.now c.args.connection ∙ sym c.open_why.ensures ∙ c.in-None.is

pub returns-in_ok-settle-in-None : goal.returns-in_ok-settle-in-None
returns-in_ok-settle-in-None c = record { possible = settle-line c.args.self.now c.args.connection ∙ sym c.open_why.ensures ∙ c.in-None.is; effect = c.in_ok-settle-in-None.ensures }
