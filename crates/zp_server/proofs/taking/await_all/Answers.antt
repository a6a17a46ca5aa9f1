use Rattle.zp_server.proofs.Halting.{rest_later}
use Rattle.zp_server.proofs.taking.await_all.Goals as goal

pub returns-in-Ok-clause-goes : goal.returns-in-Ok-clause-goes
returns-in-Ok-clause-goes g c = rw c.in-Ok.ensures.idle at c.in-Ok.ensures.goes

pub returns-in-Err-Feed-clause-goes : goal.returns-in-Err-Feed-clause-goes
returns-in-Err-Feed-clause-goes g c = λ size net. rest_later _ _ c.await_rest.result _ _ _ _ _ _ ((rw c.in-Err-Feed.field-0-is at c.in-Err-Feed.ensures.goes) size net) (c.await_rest.ensures.halts size net)

pub returns-in-Err-Net-clause-goes : goal.returns-in-Err-Net-clause-goes
returns-in-Err-Net-clause-goes g c = rw c.in-Err-Net.field-0-is at c.in-Err-Net.ensures.goes

pub returns-in-Err-Write-clause-goes : goal.returns-in-Err-Write-clause-goes
returns-in-Err-Write-clause-goes g c = rw c.in-Err-Write.field-0-is at c.in-Err-Write.ensures.goes

pub returns-in-Err-Memory-clause-goes : goal.returns-in-Err-Memory-clause-goes
returns-in-Err-Memory-clause-goes g c = rw c.in-Err-Memory.field-0-is at c.in-Err-Memory.ensures.goes

pub returns-in-Err-Feed-clause-found : goal.returns-in-Err-Feed-clause-found
returns-in-Err-Feed-clause-found g c = c.await_rest.ensures.found (rw c.in-Err-Feed.field-0-is at c.in-Err-Feed.ensures.found)
