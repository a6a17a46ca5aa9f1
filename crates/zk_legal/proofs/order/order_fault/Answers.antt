use Rattle.std.proofs.Common.{List, take, sym, ◌∙◌, subst}
use Rattle.zk_transcript.specs.declared.transcript.TranscriptLine.{TranscriptLine}
use Rattle.zk_legal.specs.Counted.{AreLasts}
use Rattle.zk_legal.proofs.Steps.{order_fault-from, order-off, order-on, taken}
use Rattle.zk_legal.proofs.order.order_fault.Goals as goal

pub loop-place-preserved : goal.loop-place-preserved
loop-place-preserved c =
    let before : List TranscriptLine = take c.loop-place.place c.args.lines.now in
    record {
      fault = c.loop-place.invariant.fault
          ∙ order-on c.args.lines.now c.loop-place.place c.index-lines-place.result c.loop-place-test.true c.index-lines-place.is
          (sym (c.is_in_order.ensures before c.loop-place.invariant.lasts) ∙ c.if-not-is_in_order.false);
      lasts = subst (λ (b : List TranscriptLine). AreLasts b c.in_ok-lasts.lasts) (taken c.args.lines.now c.loop-place.place c.index-lines-place.result c.loop-place-test.true c.index-lines-place.is)
          (c.in_ok-lasts.ensures before c.loop-place.invariant.lasts);
    }

pub returns-then-not-is_in_order : goal.returns-then-not-is_in_order
returns-then-not-is_in_order c =
    let before : List TranscriptLine = take c.loop-place.place c.args.lines.now in
    sym (order_fault-from c.args.lines.now ∙ c.loop-place.invariant.fault
    ∙ order-off c.args.lines.now c.loop-place.place c.index-lines-place.result c.loop-place-test.true c.index-lines-place.is
    (sym (c.is_in_order.ensures before c.loop-place.invariant.lasts) ∙ c.if-not-is_in_order.true))
