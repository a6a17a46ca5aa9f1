use Rattle.std.proofs.Common.{true, [], refl, ◌∙◌}
use Rattle.zp_server.proofs.Logging.{logs_none}
use Rattle.zp_server.proofs.Halting.{met_later, met_on, met_starved, rested}
use Rattle.zp_server.proofs.Looks.{found_still}
use Rattle.zp_server.proofs.taking.await_rest.Goals as goal

pub takes-init : goal.takes-init
takes-init g c = (tt, tt, refl, λ r there. there, λ size net. logs_none _ true _ _)

pub returns-then-is_idle-clause-halts : goal.returns-then-is_idle-clause-halts
returns-then-is_idle-clause-halts g c = λ size net may. rested _ _ _ _ _ _ may (c.is_idle.ensures c.if-is_idle.true) (c.takes.invariant.4 size net)

pub returns-in-Err-clause-halts : goal.returns-in-Err-clause-halts
returns-in-Err-clause-halts g c = λ size net may. met_starved _ _ _ [] _ _ (c.takes.invariant.4 size net)

pub takes-preserved : goal.takes-preserved
takes-preserved g c = (tt, tt, c.in-Ok-take_on.ensures.own ∙ c.takes.invariant.2, λ r there. c.in-Ok-take_on.ensures.kept r (c.takes.invariant.3 r there), λ size net. met_on _ _ _ _ _ _ _ (c.takes.invariant.4 size net) (c.in-Ok-take_on.ensures.rests size net))

pub returns-in-Err-take_on-clause-halts : goal.returns-in-Err-take_on-clause-halts
returns-in-Err-take_on-clause-halts g c = λ size net may. met_later _ c.in-Err-take_on.stop _ _ _ _ _ _ (c.takes.invariant.4 size net) (c.in-Err-take_on.ensures.rests size net)

pub returns-then-is_idle-clause-found : goal.returns-then-is_idle-clause-found
returns-then-is_idle-clause-found g c = found_still _ _ _ _ _ c.takes.invariant.2 c.takes.invariant.3

pub returns-in-Err-take_on-clause-found : goal.returns-in-Err-take_on-clause-found
returns-in-Err-take_on-clause-found g c = λ _. c.in-Err-take_on.ensures.found
