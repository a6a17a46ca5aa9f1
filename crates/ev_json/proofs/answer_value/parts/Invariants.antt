use Rattle.std.proofs.Common.{◌≡◌}
use Rattle.ev_fields.specs.Places.{items_at}
use Rattle.ev_json.specs.Answers.{parts_in}
use Rattle.ev_json.proofs.Loop.{with_front}
use Rattle.ev_json.proofs.Pairs.{rest_of}
use Rattle.ev_json.proofs.answer_value.parts.Given as goal

abbrev pub invariant-loop-act : goal.invariant-loop-act
invariant-loop-act l = with_front l.list.items (rest_of l.acts l.act-index (items_at l.values)) ≡ parts_in l.acts (items_at l.fn.values)
