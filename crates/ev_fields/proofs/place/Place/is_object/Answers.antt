use Rattle.std.proofs.Common.{◌∙◌}
use Rattle.ev_fields.proofs.Placed.{is_object_at}
use Rattle.ev_fields.proofs.place.Place.is_object.Goals as goal

pub returns : goal.returns
returns c = c.is_some.ensures ∙ is_object_at c.self.inside.element c.args.self.now c.self.view_is c.self.invariant c.members.result c.members.ensures
