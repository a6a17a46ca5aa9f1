use Rattle.std.proofs.Common.{ℕ, List, refl, subst}
use Rattle.zt_text.specs.declared.script.Happening.{Happening}
use Rattle.zt_text.specs.declared.script.Happening.TheVariants as line
use Rattle.zp_stress.specs.Passing.{Passes}
use Rattle.zp_stress.proofs.client.open.Goals as goal

pub returns : goal.returns
returns c = (
  c.pass.new.world,
  subst (λ (h : Happening). Passes c.args.world.now h c.pass.new.world) c.open_line.ensures.is c.in_ok-pass.ensures.passes,
  (
    c.pass-2.new.world,
    subst (λ (b : List ℕ). Passes c.pass.new.world (line.Arrive c.args.number b) c.pass-2.new.world) c.in_ok-bytes.ensures c.in_ok-pass-2.ensures.passes,
    (c.pass-3.new.world, c.in_ok-pass-3.ensures.passes, refl),
  ),
)
