-- The next change fires what is armed, and at last none is left.
use Rattle.std.proofs.Common.{◌≤◌, ◌+◌, length, drop, arith}
use Rattle.zp_core.proofs.Firing.{fires-all, fires-more, fires-next}
use Rattle.zp_core.proofs.entries.fire_all.Goals as goal

pub loop-trigger-preserved : goal.loop-trigger-preserved
loop-trigger-preserved c =
    let start = c.args.watches.now in
    let all = c.args.triggers.now in
    let next = fires-next start c.loop-trigger.watches all c.loop-trigger.notices c.loop-trigger.trigger-index c.trigger-item.result c.loop-trigger-test.true c.trigger-item.is c.loop-trigger.invariant in
    rw c.in_ok-tell_of.ensures
    (fires-more start c.loop-trigger.watches c.fire.new.self all (drop (c.loop-trigger.trigger-index + 1) all) c.trigger-item.result c.loop-trigger.notices c.in_ok-notice.notice next c.in_ok-notice.ensures.ok)

pub returns : goal.returns
returns c =
    let past : length c.args.triggers.now ≤ c.loop-trigger.trigger-index = omega arith in
    fires-all c.args.watches.now c.loop-trigger.watches c.args.triggers.now c.loop-trigger.notices c.loop-trigger.trigger-index past c.loop-trigger.invariant
