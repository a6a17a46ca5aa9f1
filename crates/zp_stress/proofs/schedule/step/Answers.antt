use Rattle.std.proofs.Common.{◌≡◌, refl, sym, subst, ◌∙◌}
use Rattle.std.proofs.lemmas.Result.{on_ok_weaker}
use Rattle.zp_script.specs.Worlds.{World}
use Rattle.zt_text.specs.declared.script.Happening.TheVariants as line
use Rattle.zp_stress.specs.Passing.{Passes}
use Rattle.zp_stress.specs.Schedules.{GoesOn}
use Rattle.zp_stress.specs.declared.schedule.Turn.TheVariants.{Over, Deliver, GoOn}
use Rattle.zp_stress.proofs.Turning.{steps_over, steps_deliver, steps_go, turned_over}
use Rattle.zp_stress.proofs.schedule.step.Goals as goal

pub returns-in-Over-clause-does : goal.returns-in-Over-clause-does
returns-in-Over-clause-does c =
    steps_over c.args.draw c.args.lasts.now.items c.args.world.now c.args.lasts.now.items c.carry_out.new.world (sym c.in_ok-turn.ensures.turn ∙ c.in-Over.is) c.in_ok-turn.ensures.passes refl

pub returns-in-Deliver-clause-does : goal.returns-in-Deliver-clause-does
returns-in-Deliver-clause-does c =
    let is = sym c.in_ok-turn.ensures.turn ∙ c.in-Deliver.is in
    let same = turned_over c.args.world.now (line.Exec c.args.draw.connection) c.carry_out.new.world (λ over. let e : Deliver ≡ Over = sym is ∙ over in cc) c.in_ok-turn.ensures.passes in
    on_ok_weaker c.deliver.result
    (λ h. steps_deliver c.args.draw c.args.lasts.now.items c.args.world.now c.args.lasts.now.items c.deliver.new.world is
    (subst (λ (v : World). Passes v (line.Answer c.args.draw.connection) c.deliver.new.world) same h) refl)
    c.deliver.ensures

pub returns-in-GoOn-clause-does : goal.returns-in-GoOn-clause-does
returns-in-GoOn-clause-does c =
    let is = sym c.in_ok-turn.ensures.turn ∙ c.in-GoOn.is in
    let same = turned_over c.args.world.now (line.Exec c.args.draw.connection) c.carry_out.new.world (λ over. let e : GoOn ≡ Over = sym is ∙ over in cc) c.in_ok-turn.ensures.passes in
    on_ok_weaker c.go_on.result
    (λ h. steps_go c.args.draw c.args.lasts.now.items c.args.world.now c.go_on.new.lasts.items c.go_on.new.world is
    (subst (λ (v : World). GoesOn c.args.draw c.args.lasts.now.items v c.go_on.new.lasts.items c.go_on.new.world) same h))
    c.go_on.ensures.does
