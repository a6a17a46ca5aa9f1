use Rattle.std.proofs.Common.{refl, sym, subst, ◌∙◌}
use Rattle.std.proofs.lemmas.Result.{on_ok_weaker}
use Rattle.zp_script.specs.Worlds.{World}
use Rattle.zt_text.specs.declared.script.Happening.TheVariants as line
use Rattle.zp_stress.specs.Schedules.{Sends}
use Rattle.zp_stress.proofs.Joining.{same_world}
use Rattle.zp_stress.proofs.Turning.{pings_entry, pings_sends}
use Rattle.zp_stress.proofs.schedule.ping.Goals as goal

pub returns-in-None-clause-does : goal.returns-in-None-clause-does
returns-in-None-clause-does c =
    pings_entry c.args.draw c.args.lasts.now.items c.args.world.now c.args.lasts.now.items c.pass.new.world (sym c.in_ok-why.ensures.why ∙ c.in-None.is) c.in_ok-why.ensures.passes refl

pub returns-in-Some-clause-does : goal.returns-in-Some-clause-does
returns-in-Some-clause-does c =
    let is = sym c.in_ok-why.ensures.why ∙ c.in-Some.is in
    let same = same_world c.args.world.now (line.Entry c.args.draw.connection) c.pass.new.world c.in-Some._why is c.in_ok-why.ensures.passes in
    on_ok_weaker c.send.result
    (λ h. pings_sends c.args.draw c.args.lasts.now.items c.args.world.now c.send.new.lasts.items c.send.new.world c.in-Some._why is
    (subst (λ (v : World). Sends c.args.draw c.args.lasts.now.items v c.send.new.lasts.items c.send.new.world) same h))
    c.send.ensures.does
