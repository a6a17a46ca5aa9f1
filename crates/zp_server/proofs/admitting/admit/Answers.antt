use Rattle.std.proofs.Common.{[], arith}
use Rattle.zp_server.proofs.Halting.{halts_most, looked}
use Rattle.zp_server.proofs.Looks.{found_by_own, open_twice}
use Rattle.zp_server.proofs.Stopping.{let_in, shut_out}
use Rattle.zp_server.proofs.admitting.admit.Goals as goal

pub returns-in-Err-clause-admits : goal.returns-in-Err-clause-admits
returns-in-Err-clause-admits g c = λ size. halts_most size c.in-Err.stop 0 1 [] _ _ _ _ (omega arith) (c.in-Err.ensures.goes size _)

pub returns-in-Err-look-clause-admits : goal.returns-in-Err-look-clause-admits
returns-in-Err-look-clause-admits g c = λ size. looked size c.in-Err-look.stop _ _ 1 0 _ _ _ _ (omega arith) c.in-Err-look.ensures (c.in-Ok.ensures.goes size _)

pub returns-in-Err-accept-clause-admits : goal.returns-in-Err-accept-clause-admits
returns-in-Err-accept-clause-admits g c = λ size. shut_out size _ _ [] _ _ _ _ _ _ (c.in-Ok.ensures.goes size _) c.in-Err-accept.ensures.counts

pub returns-in-Ok-look-2-clause-admits : goal.returns-in-Ok-look-2-clause-admits
returns-in-Ok-look-2-clause-admits g c = λ size. let_in size _ _ _ _ _ _ _ _ (c.in-Ok.ensures.goes size _) c.in-Ok-accept.ensures.counts

pub returns-in-Err-look-2-clause-admits : goal.returns-in-Err-look-2-clause-admits
returns-in-Err-look-2-clause-admits g c = λ size. looked size c.in-Err-look-2.stop _ _ 1 1 _ _ _ _ (omega arith) c.in-Err-look-2.ensures (let_in size _ _ _ _ _ _ _ _ (c.in-Ok.ensures.goes size _) c.in-Ok-accept.ensures.counts)

pub returns-in-Ok-look-2-clause-looked : goal.returns-in-Ok-look-2-clause-looked
returns-in-Ok-look-2-clause-looked g c = open_twice _ _ _ _ c.in-Ok.ensures.own c.in-Ok-look.ensures c.in-Ok-look-2.ensures

pub returns-in-Err-clause-found : goal.returns-in-Err-clause-found
returns-in-Err-clause-found g c = c.in-Err.ensures.found

pub returns-in-Err-look-clause-found : goal.returns-in-Err-look-clause-found
returns-in-Err-look-clause-found g c = found_by_own c.in-Err-look.stop _ _ _ c.in-Err-look.ensures

pub returns-in-Err-look-2-clause-found : goal.returns-in-Err-look-2-clause-found
returns-in-Err-look-2-clause-found g c = found_by_own c.in-Err-look-2.stop _ _ _ c.in-Err-look-2.ensures
