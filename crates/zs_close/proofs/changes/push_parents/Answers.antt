use Rattle.std.proofs.Common.{arith}
use Rattle.zs_close.proofs.Told.{parents-more}
use Rattle.zs_close.proofs.WritesAfter.{after-both}
use Rattle.zs_close.proofs.changes.push_parents.Goals as goal

pub loop-parent-preserved : goal.loop-parent-preserved
loop-parent-preserved c = (
  after-both c.args.acts.now c.loop-parent.acts c.push_counts.new.acts c.loop-parent.invariant.0 c.in_ok-push_counts.ensures.after,
  parents-more c.args.view.now c.args.paths.now c.args.parents.now c.loop-parent.parent-index c.parent-item.result c.args.acts.now c.loop-parent.acts c.push_counts.new.acts
      (omega arith) c.parent-item.is c.loop-parent.invariant.1 c.in_ok-push_counts.ensures.told,
)
