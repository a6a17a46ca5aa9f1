use Rattle.std.proofs.Common.{◌≡◌, ◌+◌, refl, ap, ◌∙◌, arith, rules, true, false}
use Rattle.std.specs.Prelude.{nat_lt, None}
use Rattle.std.proofs.lemmas.Bool.Decides.{nat_tests}
use Rattle.zk_model.specs.Limits.{max_time}
use Rattle.zt_text.specs.declared.script.Why.TheVariants as why
use Rattle.zp_script.specs.Faults.{if_fails}
use Rattle.zp_script.specs.Worlds.{World}
use Rattle.zp_world.proofs.Happening.{ticks-to}
use Rattle.zp_world.proofs.Refusing.{refuses, tick-line}
use Rattle.zp_world.proofs.world.World.tick_line.Goals as goal

pub returns-then-clock-gt-MAX_TIME : goal.returns-then-clock-gt-MAX_TIME
returns-then-clock-gt-MAX_TIME c =
    let same = ap (λ (w : World). w.clock) c.self.view_is in
    let past : nat_lt max_time (c.args.self.now.clock + c.args.millis) ≡ true = grind (arith, nat_tests, same) in
    refuses _ _ why.ClockLimit c.refused.result (tick-line c.args.self.now c.args.millis ∙ ap (λ b. if_fails b why.ClockLimit None) past) c.refused.ensures

pub returns : goal.returns
returns c =
    let same = ap (λ (w : World). w.clock) c.self.view_is in
    let within : nat_lt max_time (c.args.self.now.clock + c.args.millis) ≡ false = grind (arith, nat_tests, same) in
    record {
      possible = tick-line c.args.self.now c.args.millis ∙ ap (λ b. if_fails b why.ClockLimit None) within;
      effect = ticks-to _ _ _ c.from.result c.args.millis c.self.view_is (search rules) refl;
    }
