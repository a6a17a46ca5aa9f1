use Rattle.ev_addresses.proofs.Numbers.{can_dial}
use Rattle.ev_addresses.proofs.lists.address_at.Goals as goal

pub returns-in-Some-clause-can : goal.returns-in-Some-clause-can
returns-in-Some-clause-can c = λ h. can_dial c.args.text.now c.args.index _ h c.in-Some.ensures
