use Rattle.std.proofs.Common.{ap, ◌∙◌}
use Rattle.std.specs.Vec.Iter.{into_iter_items}
use Rattle.zp_script.specs.Worlds.{World}
use Rattle.zp_world.specs.Activities.{open_numbers}
use Rattle.zp_world.proofs.Restarting.{begin-stopping, end-stopping, more-stopping}
use Rattle.zp_world.proofs.Within.{nothing-left}
use Rattle.zp_world.proofs.world.World.restart.Goals as goal

pub loop-number-init : goal.loop-number-init
loop-number-init c =
    begin-stopping c.args.proxy c.args.self.now (into_iter_items c.into_iter-number-iterator.result)
    (c.into_iter-number-iterator.ensures.into_iter_gives.0 ∙ c.in_ok-numbers.ensures ∙ ap (λ (w : World). open_numbers c.args.proxy w.conns) c.self.view_is)

pub loop-number-preserved : goal.loop-number-preserved
loop-number-preserved c =
    more-stopping c.args.proxy c.args.self.now c.loop-number.self c.stop.new.self c.in-Some.number (into_iter_items c.next.new.self) (into_iter_items c.loop-number.number-iterator)
    c.in-Some.ensures.steps.0 c.loop-number.invariant c.in_ok-stop.ensures

pub returns : goal.returns
returns c =
    end-stopping c.args.proxy c.args.self.now c.loop-number.self (into_iter_items c.loop-number.number-iterator)
    (nothing-left c.loop-number.number-iterator c.in-None.ensures.steps.0) c.loop-number.invariant
