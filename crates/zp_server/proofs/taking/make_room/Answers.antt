use Rattle.std.proofs.Common.{false, [], ◌∙◌, arith}
use Rattle.zp_server.proofs.Logging.{logs_same}
use Rattle.zp_server.proofs.Halting.{goes_later, goes_on, starves_later}
use Rattle.zp_server.proofs.taking.make_room.Goals as goal

pub takes-init : goal.takes-init
takes-init g c = (tt, tt, c.tell_if_full.ensures.own, λ size net. logs_same _ false _ _ _ c.tell_if_full.ensures.busy)

pub returns-in-Ok-None-clause-goes : goal.returns-in-Ok-None-clause-goes
returns-in-Ok-None-clause-goes g c = c.takes.invariant.3

pub returns-in-Ok-None-clause-own : goal.returns-in-Ok-None-clause-own
returns-in-Ok-None-clause-own g c = c.takes.invariant.2

pub returns-in-Err-clause-goes : goal.returns-in-Err-clause-goes
returns-in-Err-clause-goes g c = λ size net. starves_later _ 0 _ _ [] _ _ (c.takes.invariant.3 size net)

pub returns-in-Err-clause-own : goal.returns-in-Err-clause-own
returns-in-Err-clause-own g c = c.takes.invariant.2

pub returns-in-Err-take_back-clause-goes : goal.returns-in-Err-take_back-clause-goes
returns-in-Err-take_back-clause-goes g c = λ size net. goes_later _ c.in-Err-take_back.stop 0 _ _ _ _ _ _ (omega arith) (c.takes.invariant.3 size net) (c.in-Err-take_back.ensures.goes size net)

pub returns-in-Err-take_back-clause-own : goal.returns-in-Err-take_back-clause-own
returns-in-Err-take_back-clause-own g c = c.in-Err-take_back.ensures.own ∙ c.takes.invariant.2

pub takes-preserved : goal.takes-preserved
takes-preserved g c = (tt, tt, c.in-Ok.ensures.own ∙ c.takes.invariant.2, λ size net. goes_on _ _ _ _ _ _ _ (c.takes.invariant.3 size net) (c.in-Ok.ensures.goes size net))
