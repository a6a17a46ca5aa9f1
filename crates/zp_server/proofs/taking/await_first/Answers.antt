use Rattle.std.proofs.Common.{false, [], arith}
use Rattle.zp_server.proofs.Logging.{logs_none}
use Rattle.zp_server.proofs.Halting.{goes_later, goes_on, starves_later}
use Rattle.zp_server.proofs.taking.await_first.Goals as goal

pub takes-init : goal.takes-init
takes-init g c = (tt, tt, λ size net. logs_none _ false _ _)

pub returns-then-is_idle : goal.returns-then-is_idle
returns-then-is_idle g c = record { goes = c.takes.invariant.2; idle = c.is_idle.ensures c.if-is_idle.true; found = tt }

pub returns-in-Err-clause-goes : goal.returns-in-Err-clause-goes
returns-in-Err-clause-goes g c = λ size net. starves_later _ 0 _ _ [] _ _ (c.takes.invariant.2 size net)

pub takes-preserved : goal.takes-preserved
takes-preserved g c = (tt, tt, λ size net. goes_on _ _ _ _ _ _ _ (c.takes.invariant.2 size net) (c.in-Ok-take_back.ensures.goes size net))

pub returns-in-Err-take_back-clause-goes : goal.returns-in-Err-take_back-clause-goes
returns-in-Err-take_back-clause-goes g c = λ size net. goes_later _ c.in-Err-take_back.stop 0 _ _ _ _ _ _ (omega arith) (c.takes.invariant.2 size net) (c.in-Err-take_back.ensures.goes size net)
