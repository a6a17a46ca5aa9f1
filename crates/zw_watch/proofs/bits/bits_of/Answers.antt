use Rattle.std.proofs.Common.{◌∙◌, ap, bit_or}
use Rattle.zw_watch.proofs.Hearing.{with_bits-next, with_bits-done}
use Rattle.zw_watch.proofs.bits.bits_of.Goals as goal

pub loop-trigger-preserved : goal.loop-trigger-preserved
loop-trigger-preserved c =
    with_bits-next c.loop-trigger.bits _ c.args.triggers.now c.loop-trigger.trigger-index c.trigger-item.result c.loop-trigger-test.true c.trigger-item.is
    (ap (bit_or c.loop-trigger.bits) c.trigger_bits-bits.ensures) ∙ c.loop-trigger.invariant

pub returns : goal.returns
returns c = with_bits-done _ c.args.triggers.now c.loop-trigger.trigger-index c.loop-trigger-test.false ∙ c.loop-trigger.invariant
