use Rattle.std.proofs.Common.{[], refl}
use Rattle.zp_server.proofs.Accepted.{started, undialled, unstarted}
use Rattle.zp_server.proofs.Looks.{nothing_found}
use Rattle.zp_server.proofs.accepting.serve_one.Goals as goal

pub returns-in-Ok-start_one-clause-goes : goal.returns-in-Ok-start_one-clause-goes
returns-in-Ok-start_one-clause-goes g c = started _ _ _ _ _ _ _ _ _ c.in-Ok.ensures.dials.0 c.in-Ok.ensures.dials.1 c.in-Ok.ensures.dials.2 c.in-Ok-start_one.ensures.busy c.in-Ok-start_one.ensures.book

pub returns-in-Ok-clause-goes : goal.returns-in-Ok-clause-goes
returns-in-Ok-clause-goes g c = unstarted _ _ [] _ _ _ _ _ c.in-Ok.ensures.dials.0 c.in-Ok.ensures.dials.2 c.in-Err.ensures.book

pub returns-in-Err-Dial-clause-goes : goal.returns-in-Err-Dial-clause-goes
returns-in-Err-Dial-clause-goes g c = undialled _ c.say_no_link.result _ _ _ _ _ _ _ (rw c.in-Err-Dial.field-0-is at c.in-Err-Dial.ensures).dials c.say_no_link.ensures

pub returns-clause-goes : goal.returns-clause-goes
returns-clause-goes g c = unstarted _ _ [] _ _ _ _ _ (rw c.in-Err-Memory.field-0-is at c.in-Err-Memory.ensures).dials.0 (rw c.in-Err-Memory.field-0-is at c.in-Err-Memory.ensures).dials.2 refl

pub returns-in-Err-Dial-clause-found : goal.returns-in-Err-Dial-clause-found
returns-in-Err-Dial-clause-found g c = nothing_found c.say_no_link.result _ _ _ _ _ c.say_no_link.ensures
