use Rattle.std.proofs.Common.{false}
use Rattle.zp_server.proofs.Logging.{logs_met}
use Rattle.zp_server.proofs.Halting.{met_found}
use Rattle.zp_server.proofs.taking.take_on.Goals as goal

pub returns-in-Ok-clause-rests : goal.returns-in-Ok-clause-rests
returns-in-Ok-clause-rests g c = λ size net. logs_met _ false _ _ _ _ _ _ (c.in-Ok.ensures.goes size net)

pub returns-in-Err-Feed-clause-rests : goal.returns-in-Err-Feed-clause-rests
returns-in-Err-Feed-clause-rests g c = λ size net. met_found _ _ _ _ _ _ ((rw c.in-Err-Feed.field-0-is at c.in-Err-Feed.ensures.goes) size net)

pub returns-in-Err-Net-clause-rests : goal.returns-in-Err-Net-clause-rests
returns-in-Err-Net-clause-rests g c = rw c.in-Err-Net.field-0-is at c.in-Err-Net.ensures.goes

pub returns-in-Err-Write-clause-rests : goal.returns-in-Err-Write-clause-rests
returns-in-Err-Write-clause-rests g c = rw c.in-Err-Write.field-0-is at c.in-Err-Write.ensures.goes

pub returns-clause-rests : goal.returns-clause-rests
returns-clause-rests g c = rw c.in-Err-Memory.field-0-is at c.in-Err-Memory.ensures.goes
