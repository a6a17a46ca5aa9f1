use Rattle.std.proofs.Common.{sym, ◌∙◌}
use Rattle.zp_world.proofs.Refusing.{refuses, lag-line}
use Rattle.zp_world.proofs.world.World.lag_line.Goals as goal

pub returns-in-Some : goal.returns-in-Some
returns-in-Some c = refuses _ _ c.in-Some.why c.refused.result (lag-line c.args.self.now c.args.connection ∙ sym c.lag_why.ensures ∙ c.in-Some.is) c.refused.ensures

pub lag-requires : goal.lag-requires
lag-requires c = lag-line c.args.self.now c.args.connection ∙ sym c.lag_why.ensures ∙ c.in-None.is

pub returns-in_ok-lag-in-None : goal.returns-in_ok-lag-in-None
returns-in_ok-lag-in-None c = record { possible = lag-line c.args.self.now c.args.connection ∙ sym c.lag_why.ensures ∙ c.in-None.is; effect = c.in_ok-lag-in-None.ensures }
