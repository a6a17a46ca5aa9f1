use Rattle.std.proofs.Common.{length}
use Rattle.zp_conn.specs.Speaking.{IsSpeaking}
use Rattle.zp_conn.proofs.speaking.speak.Given as goal

abbrev pub invariant-actions : goal.invariant-actions
invariant-actions g l = IsSpeaking l.fn.actions.items l.queue.items l.fn.outbox l.outbox (g.T.Trace.told l.fn.trace) (g.T.Trace.told l.trace)

abbrev pub decreases-actions : goal.decreases-actions
decreases-actions g l = length l.queue.items
