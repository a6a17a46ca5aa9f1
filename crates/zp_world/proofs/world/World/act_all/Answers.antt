use Rattle.std.specs.Vec.Iter.{into_iter_items}
use Rattle.zp_script.specs.Kinds.{kind_asked}
use Rattle.zp_script.specs.Worlds.{Connection}
use Rattle.zp_world.proofs.Acting.{acted-as, begin-acting, end-acting, fit-acting, more-acting}
use Rattle.zp_world.proofs.Within.{nothing-left}
use Rattle.zp_world.proofs.world.World.act_all.Goals as goal

pub loop-action-init : goal.loop-action-init
loop-action-init c =
    begin-acting c.args.arrival.connection c.kind_of-kind.result c.args.first c.args.arrival.zxid (into_iter_items c.args.after.now) c.args.core.now c.args.self.now c.args.flight c.args.out.items
    (into_iter_items c.into_iter-action-iterator.result) c.requires.leaves c.requires.fit c.into_iter-action-iterator.ensures.into_iter_gives.0

pub act_once-requires : goal.act_once-requires
act_once-requires c = fit-acting _ _ _ _ _ _ _ _ _ _ _ _ _ c.loop-action.invariant

pub loop-action-preserved : goal.loop-action-preserved
loop-action-preserved c =
    more-acting c.args.arrival.connection c.kind_of-kind.result c.args.first c.args.arrival.zxid (into_iter_items c.args.after.now) c.args.core.now c.args.self.now c.args.flight c.args.out.items
    c.loop-action.self c.loop-action.flight (into_iter_items c.loop-action.action-iterator) c.in-Some.action (into_iter_items c.next.new.self) (into_iter_items c.loop-action.after)
    c.act_once.new.self c.in_ok-flight.flight (into_iter_items c.act_once.new.after)
    c.kind_of-kind.ensures.held c.kind_of-kind.ensures.formed c.in-Some.ensures.steps.0 c.loop-action.invariant c.in_ok-flight.ensures.done c.in_ok-flight.ensures.out c.in_ok-flight.ensures.after

pub returns : goal.returns
returns c =
    let zxid = c.args.arrival.zxid in
    let frames = into_iter_items c.args.after.now in
    let acted = end-acting c.args.arrival.connection c.kind_of-kind.result c.args.first zxid frames c.args.core.now c.args.self.now c.args.flight c.args.out.items
    c.loop-action.self c.loop-action.flight (into_iter_items c.loop-action.action-iterator) (into_iter_items c.loop-action.after)
    (nothing-left c.loop-action.action-iterator c.in-None.ensures.steps.0) c.loop-action.invariant in
    let all = acted-as c.args.arrival.connection c.kind_of-kind.result (kind_asked c.args.arrival.connection (Connection c.args.core.now)) c.args.first zxid frames c.args.core.now c.args.self.now c.args.flight c.args.out.items
    c.loop-action.self c.loop-action.flight (into_iter_items c.loop-action.after)
    c.kind_of-kind.ensures.kind acted in
    record { after = all.after; out = all.out_is; fit = all.fit; flies = all.flies; done = all.world }
