use Rattle.std.proofs.Common.{sym, ◌∙◌}
use Rattle.zp_world.proofs.Possible.{carry-asks}
use Rattle.zp_world.proofs.Refusing.{refuses, refuse-line}
use Rattle.zp_world.proofs.world.World.refuse_line.Goals as goal

pub returns-in-Some : goal.returns-in-Some
returns-in-Some c = refuses _ _ c.in-Some.why c.refused.result (refuse-line c.args.self.now c.args.connection ∙ sym c.carry_why.ensures ∙ c.in-Some.is) c.refused.ensures

pub refuse-requires : goal.refuse-requires
refuse-requires c = carry-asks c.args.connection c.args.self.now (sym c.carry_why.ensures ∙ c.in-None.is)

pub returns-in_ok-refuse-in-None : goal.returns-in_ok-refuse-in-None
returns-in_ok-refuse-in-None c = record { possible = refuse-line c.args.self.now c.args.connection ∙ sym c.carry_why.ensures ∙ c.in-None.is; effect = c.in_ok-refuse-in-None.ensures }
