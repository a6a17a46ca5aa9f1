use Rattle.std.proofs.Common.{sym, subst}
use Rattle.zp_conn.specs.Speaking.{IsSpeaking}
use Rattle.zp_conn.proofs.Packets.{goes_with, starts}
use Rattle.zp_conn.proofs.speaking.speak.Goals as goal

pub actions-init : goal.actions-init
actions-init g c = subst (λ q. IsSpeaking c.args.actions.items q c.args.outbox.now c.args.outbox.now (g.T.Trace.told c.args.trace.now) (g.T.Trace.told c.args.trace.now)) (sym c.from-queue.ensures.0)
    (starts c.args.actions.items c.args.outbox.now (g.T.Trace.told c.args.trace.now) c.requires)

pub actions-preserved : goal.actions-preserved
actions-preserved g c = goes_with c.args.actions.items c.actions.queue.items c.pop_front.new.self.items c.in-Some.action c.in-Send.packet _ _ _ _ _ _ c.in-Some.ensures.items c.in-Send.is c.actions.invariant c.in_ok-say-in-Send.ensures
