use Rattle.std.proofs.Common.{[], refl, ap}
use Rattle.json.specs.Lex.{tokens, lex, punctuate}
use Rattle.json.specs.Print.{print_from, ArePrintable}
use Rattle.ev_fields.proofs.text.Text.with_room.Goals as goal

pub invariant_of-result : goal.invariant_of-result
unfolding print_from ArePrintable
invariant_of-result c = record { printed = []; printable = tt; text = c.in_ok-with_capacity.ensures.bytes; place = refl }

pub returns : goal.returns
unfolding lex punctuate
returns c = ap tokens c.in_ok-with_capacity.ensures.bytes
