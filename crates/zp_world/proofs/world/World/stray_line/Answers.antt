use Rattle.std.proofs.Common.{sym, ◌∙◌}
use Rattle.zp_world.proofs.Refusing.{refuses, stray-line}
use Rattle.zp_world.proofs.world.World.stray_line.Goals as goal

pub returns-in-Some : goal.returns-in-Some
returns-in-Some c = refuses _ _ c.in-Some.why c.refused.result (stray-line c.args.self.now c.args.number ∙ sym c.stray_why.ensures ∙ c.in-Some.is) c.refused.ensures

pub returns-in_ok-execute_stray-in-None : goal.returns-in_ok-execute_stray-in-None
returns-in_ok-execute_stray-in-None c = record {
  possible = stray-line c.args.self.now c.args.number ∙ sym c.stray_why.ensures ∙ c.in-None.is;
  effect = c.in_ok-execute_stray-in-None.ensures;
}

pub execute_stray-requires : goal.execute_stray-requires
execute_stray-requires c = stray-line c.args.self.now c.args.number ∙ sym c.stray_why.ensures ∙ c.in-None.is
