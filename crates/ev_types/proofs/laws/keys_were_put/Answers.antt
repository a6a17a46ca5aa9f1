use Rattle.ev_types.proofs.Bounds.{present-put, present-within}
use Rattle.ev_types.proofs.laws.keys_were_put.Goals as goal

pub returns-clause-least : goal.returns-clause-least
returns-clause-least c = present-put

pub returns-clause-most : goal.returns-clause-most
returns-clause-most c = present-within
