use Rattle.std.proofs.Common.{refl, sym, ap, ◌∙◌}
use Rattle.std.proofs.lemmas.Result.{on_ok_weaker}
use Rattle.zp_clients.specs.Wishes.{is_ping}
use Rattle.zp_stress.proofs.Turning.{asks_pings, asks_sends, goes_asks, goes_entry}
use Rattle.zp_stress.proofs.schedule.go_on.Goals as goal

pub returns-then-awaits-clause-does : goal.returns-then-awaits-clause-does
returns-then-awaits-clause-does c =
    on_ok_weaker c.tell.result
    (λ h. goes_entry c.args.draw c.args.lasts.now.items c.args.world.now c.args.lasts.now.items c.tell.new.world (sym c.awaits.ensures ∙ c.if-awaits.true) h refl) c.tell.ensures

pub returns-then-is_ping-clause-does : goal.returns-then-is_ping-clause-does
returns-then-is_ping-clause-does c =
    let pings = ap is_ping (sym c.wish_of.ensures) ∙ sym c.is_ping.ensures ∙ c.if-is_ping.true in
    on_ok_weaker c.ping.result
    (λ h. goes_asks c.args.draw c.args.lasts.now.items c.args.world.now c.ping.new.lasts.items c.ping.new.world (sym c.awaits.ensures ∙ c.if-awaits.false)
    (asks_pings c.args.draw c.args.lasts.now.items c.args.world.now c.ping.new.lasts.items c.ping.new.world pings h)) c.ping.ensures.does

pub returns-clause-does : goal.returns-clause-does
returns-clause-does c =
    let sends = ap is_ping (sym c.wish_of.ensures) ∙ sym c.is_ping.ensures ∙ c.if-is_ping.false in
    on_ok_weaker c.send.result
    (λ h. goes_asks c.args.draw c.args.lasts.now.items c.args.world.now c.send.new.lasts.items c.send.new.world (sym c.awaits.ensures ∙ c.if-awaits.false)
    (asks_sends c.args.draw c.args.lasts.now.items c.args.world.now c.send.new.lasts.items c.send.new.world sends h)) c.send.ensures.does
