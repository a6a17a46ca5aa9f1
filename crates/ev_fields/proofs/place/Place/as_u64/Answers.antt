use Rattle.std.proofs.Common.{List, ℕ, Option, Bor, option_map, option_and_then, sym, ap, ◌∙◌}
use Rattle.json.specs.Find as find
use Rattle.serde_json.specs.Find.{as_number, as_u64}
use Rattle.serde_json.specs.Read.{number_of}
use Rattle.ev_fields.proofs.Placed.{seen, as_number-is}
use Rattle.ev_fields.proofs.place.Place.as_u64.Goals as goal

abbrev number_in : Option (Bor (List ℕ)) → Option (List ℕ)
number_in o = option_map (λ s. s.now) o

pub returns-in-Some : goal.returns-in-Some
returns-in-Some c =
    let is = seen (λ j. option_and_then number_of (find.as_number j)) as_number as_number-is c.self.inside.element c.args.self.now c.self.view_is c.self.invariant (option_and_then number_of (number_in c.as_number.result)) (λ j begins. ap (option_and_then number_of) (c.as_number.ensures j begins)) in
    c.unsigned.ensures ∙ ap (option_and_then as_u64) (sym (ap (λ o. option_and_then number_of (number_in o)) c.in-Some.is) ∙ is)

pub returns-in-None : goal.returns-in-None
returns-in-None c =
    let is = seen (λ j. option_and_then number_of (find.as_number j)) as_number as_number-is c.self.inside.element c.args.self.now c.self.view_is c.self.invariant (option_and_then number_of (number_in c.as_number.result)) (λ j begins. ap (option_and_then number_of) (c.as_number.ensures j begins)) in
    ap (option_and_then as_u64) (sym (ap (λ o. option_and_then number_of (number_in o)) c.in-None.is) ∙ is)
