use Rattle.json.specs.Find as find
use Rattle.serde_json.specs.Find.{as_bool}
use Rattle.ev_fields.proofs.Placed.{seen, as_bool-is}
use Rattle.ev_fields.proofs.place.Place.as_bool.Goals as goal

pub returns : goal.returns
returns c = seen find.as_bool as_bool as_bool-is c.self.inside.element c.args.self.now c.self.view_is c.self.invariant c.as_bool.result c.as_bool.ensures
