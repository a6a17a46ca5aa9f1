use Rattle.std.proofs.Common.{subst}
use Rattle.ev_fields.proofs.Placed.{Gets, gets}
use Rattle.ev_fields.proofs.place.Place.get.Goals as goal

pub invariant_of-result : goal.invariant_of-result
invariant_of-result c = (subst (Gets c.args.name.now c.args.self.now) c.in-Some.is (gets c.args.name.now c.self.inside.element c.args.self.now c.self.view_is c.self.invariant c.get.result c.get.ensures)).0

pub returns-in-Some : goal.returns-in-Some
returns-in-Some c = (subst (Gets c.args.name.now c.args.self.now) c.in-Some.is (gets c.args.name.now c.self.inside.element c.args.self.now c.self.view_is c.self.invariant c.get.result c.get.ensures)).1

pub returns-in-None : goal.returns-in-None
returns-in-None c = subst (Gets c.args.name.now c.args.self.now) c.in-None.is (gets c.args.name.now c.self.inside.element c.args.self.now c.self.view_is c.self.invariant c.get.result c.get.ensures)
