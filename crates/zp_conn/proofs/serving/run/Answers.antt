use Rattle.std.proofs.Common.{sym, ◌∙◌, refl}
use Rattle.zp_conn.proofs.Ends.{ended-last, last-ends}
use Rattle.zp_conn.proofs.Grants.{granted_out}
use Rattle.zp_conn.proofs.Loops.{begins, hand-on, hand-over, write-on, write-over}
use Rattle.zp_conn.proofs.Turning.{fetch-on}
use Rattle.zp_conn.proofs.serving.run.Goals as goal

pub turns-init : goal.turns-init
turns-init g c = (tt, tt, begins _ _ _ _ _ c.requires.real c.new-core.ensures c.new-inbox.ensures c.requires.none, refl, refl)

pub take_in-requires-clause-granted : goal.take_in-requires-clause-granted
take_in-requires-clause-granted g c = granted_out _ _ (c.turns.invariant.2).holds (c.turns.invariant.2).opened (c.turns.invariant.2).out

pub turns-preserved-in-Idle : goal.turns-preserved-in-Idle
turns-preserved-in-Idle g c = (tt, tt, fetch-on _ _ _ _ _ _ _ _ _ _ _ _ c.turns.invariant.2 c.in-Idle.ensures.takes, c.in-Idle.ensures.named ∙ c.turns.invariant.3, c.turns.invariant.4)

pub returns-in-Ended-clause-ends : goal.returns-in-Ended-clause-ends
returns-in-Ended-clause-ends g c = last-ends _ _ _ _ _ (ended-last _ _ _ _ _ _ _ (fetch-on _ _ _ _ _ _ _ _ _ _ _ _ c.turns.invariant.2 c.in-Ended.ensures.takes))

pub hand-requires-clause-opened : goal.hand-requires-clause-opened
hand-requires-clause-opened g c = (c.turns.invariant.2).opened

pub hand-requires-clause-may : goal.hand-requires-clause-may
hand-requires-clause-may g c = (fetch-on _ _ _ _ _ _ _ _ _ _ _ _ c.turns.invariant.2 c.in-Input.ensures.takes).may

pub returns-in-Err-clause-ends : goal.returns-in-Err-clause-ends
returns-in-Err-clause-ends g c = last-ends _ _ _ _ _ (hand-over _ _ _ _ _ _ _ _ _ _ _ (fetch-on _ _ _ _ _ _ _ _ _ _ _ _ c.turns.invariant.2 c.in-Input.ensures.takes) _ _ c.hand.ensures (sym c.goes_on.ensures ∙ c.in-Err.is))

pub turns-preserved : goal.turns-preserved
turns-preserved g c = (tt, tt, write-on _ _ _ _ _ _ _ _ _ _ (hand-on _ _ _ _ _ _ _ _ _ _ _ (fetch-on _ _ _ _ _ _ _ _ _ _ _ _ c.turns.invariant.2 c.in-Input.ensures.takes) _ _ c.hand.ensures (sym c.goes_on.ensures ∙ c.in-Ok.is)) _ _ refl c.in-Ok-flush_if.ensures.flushes, c.in-Input.ensures.named ∙ c.turns.invariant.3, c.in-Ok-flush_if.ensures.named ∙ c.turns.invariant.4)

pub returns-in-Err-flush_if-clause-ends : goal.returns-in-Err-flush_if-clause-ends
returns-in-Err-flush_if-clause-ends g c = last-ends _ _ _ _ _ (write-over _ _ _ _ _ _ _ _ _ _ (hand-on _ _ _ _ _ _ _ _ _ _ _ (fetch-on _ _ _ _ _ _ _ _ _ _ _ _ c.turns.invariant.2 c.in-Input.ensures.takes) _ _ c.hand.ensures (sym c.goes_on.ensures ∙ c.in-Ok.is)) _ _ _ c.in-Err-flush_if.is c.flush_if.ensures.flushes)
