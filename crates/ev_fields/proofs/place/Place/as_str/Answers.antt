use Rattle.std.proofs.Common.{option_map}
use Rattle.json.specs.Find as find
use Rattle.serde_json.specs.Find.{as_str}
use Rattle.ev_fields.proofs.Placed.{seen, as_str-is}
use Rattle.ev_fields.proofs.place.Place.as_str.Goals as goal

pub returns : goal.returns
returns c = seen find.as_str as_str as_str-is c.self.inside.element c.args.self.now c.self.view_is c.self.invariant (option_map (λ s. s.now) c.as_str.result) c.as_str.ensures
