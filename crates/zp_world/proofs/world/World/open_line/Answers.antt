use Rattle.std.proofs.Common.{sym, ap, ◌∙◌, w64}
use Rattle.std.specs.Prelude.{ℤ}
use Rattle.std.proofs.lemmas.Int.{to_z-of_z}
use Rattle.zp_script.specs.Effects.{opened}
use Rattle.zp_world.proofs.Refusing.{refuses, open-line}
use Rattle.zp_world.proofs.world.World.open_line.Goals as goal

pub returns-in-Some : goal.returns-in-Some
returns-in-Some c = refuses _ _ c.in-Some.why c.refused.result (open-line c.args.self.now c.args.connection c.args.proxy c.args.fresh ∙ sym c.new_why.ensures ∙ c.in-Some.is) c.refused.ensures

pub returns-in_ok-open-in-None : goal.returns-in_ok-open-in-None
returns-in_ok-open-in-None c = record {
  possible = open-line c.args.self.now c.args.connection c.args.proxy c.args.fresh ∙ sym c.new_why.ensures ∙ c.in-None.is;
  effect = c.in_ok-open-in-None.ensures;
}
