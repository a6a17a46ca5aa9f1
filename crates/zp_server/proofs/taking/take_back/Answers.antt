use Rattle.std.proofs.Common.{[], Err}
use Rattle.zp_server.proofs.Halting.{not_open, taken_closed, unbooked_closed, unclosed, unkept_closed}
use Rattle.zp_server.proofs.Looks.{found_by_returned, kept_more, nothing_found}
use Rattle.zp_server.proofs.taking.take_back.Goals as goal

pub returns-then-not-strike-clause-goes : goal.returns-then-not-strike-clause-goes
returns-then-not-strike-clause-goes g c = λ size net. not_open _ _ [] net _ _

pub returns-in-Err-clause-goes : goal.returns-in-Err-clause-goes
returns-in-Err-clause-goes g c = λ size net. unclosed _ c.in-Err.stop _ _ _ _ net _ _ _ (rw c.if-not-strike.false at c.strike.ensures) c.in-Err.ensures

pub returns-in-Err-take-clause-goes : goal.returns-in-Err-take-clause-goes
returns-in-Err-take-clause-goes g c = λ size net. unbooked_closed _ _ _ _ _ net _ _ _ _ (rw c.if-not-strike.false at c.strike.ensures) c.in-Ok.ensures c.in-Err-take.ensures.err

pub returns-in-Ok-push-clause-goes : goal.returns-in-Ok-push-clause-goes
returns-in-Ok-push-clause-goes g c = λ size net. taken_closed _ c.closing_of-closing.result _ _ _ _ _ _ net _ _ _ _ c.closing_of-closing.ensures (rw c.if-not-strike.false at c.strike.ensures) c.in-Ok.ensures c.in-Ok-take.ensures.ok

pub returns-in-Err-push-clause-goes : goal.returns-in-Err-push-clause-goes
returns-in-Err-push-clause-goes g c = λ size net. unkept_closed _ _ _ _ _ net _ _ _ _ (rw c.if-not-strike.false at c.strike.ensures) c.in-Ok.ensures c.in-Ok-take.ensures.ok

pub returns-in-Err-clause-found : goal.returns-in-Err-clause-found
returns-in-Err-clause-found g c = nothing_found (Err c.in-Err.stop) _ _ _ _ _ c.in-Err.ensures

pub returns-in-Ok-push-clause-found : goal.returns-in-Ok-push-clause-found
returns-in-Ok-push-clause-found g c = found_by_returned c.closing_of-closing.result _ _ _ _ _ _ c.closing_of-closing.ensures c.in-Ok-push.ensures.items

pub returns-in-Ok-push-clause-kept : goal.returns-in-Ok-push-clause-kept
returns-in-Ok-push-clause-kept g c = kept_more _ _ _ c.in-Ok-push.ensures.items
