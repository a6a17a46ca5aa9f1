use Rattle.std.proofs.Common.{sym, ◌∙◌}
use Rattle.zp_world.proofs.Refusing.{refuses, exec-line}
use Rattle.zp_world.proofs.world.World.exec_line.Goals as goal

pub returns-in-Some : goal.returns-in-Some
returns-in-Some c = refuses _ _ c.in-Some.why c.refused.result (exec-line c.args.self.now c.args.connection ∙ sym c.carry_why.ensures ∙ c.in-Some.is) c.refused.ensures

pub returns-in_ok-execute-in-None : goal.returns-in_ok-execute-in-None
returns-in_ok-execute-in-None c = record {
  possible = exec-line c.args.self.now c.args.connection ∙ sym c.carry_why.ensures ∙ c.in-None.is;
  effect = c.in_ok-execute-in-None.ensures;
}

pub execute-requires : goal.execute-requires
execute-requires c = exec-line c.args.self.now c.args.connection ∙ sym c.carry_why.ensures ∙ c.in-None.is
