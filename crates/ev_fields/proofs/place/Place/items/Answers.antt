use Rattle.std.proofs.Common.{subst}
use Rattle.ev_fields.proofs.Placed.{Lists, lists}
use Rattle.ev_fields.proofs.place.Place.items.Goals as goal

pub invariant_of-result : goal.invariant_of-result
invariant_of-result c = (subst (Lists c.args.self.now) c.in-Some.is (lists c.self.inside.element c.args.self.now c.self.view_is c.self.invariant c.items.result c.items.ensures)).0

pub returns-in-Some : goal.returns-in-Some
returns-in-Some c = (subst (Lists c.args.self.now) c.in-Some.is (lists c.self.inside.element c.args.self.now c.self.view_is c.self.invariant c.items.result c.items.ensures)).1

pub returns-in-None : goal.returns-in-None
returns-in-None c = subst (Lists c.args.self.now) c.in-None.is (lists c.self.inside.element c.args.self.now c.self.view_is c.self.invariant c.items.result c.items.ensures)
