use Rattle.ev_fields.proofs.Placed.{closed, closed_none}
use Rattle.ev_fields.proofs.place.Places.none.Goals as goal

pub invariant_of-result : goal.invariant_of-result
invariant_of-result c = closed

pub returns : goal.returns
returns c = closed_none
