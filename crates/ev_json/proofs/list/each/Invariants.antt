use Rattle.std.proofs.Common.{◌≡◌, length}
use Rattle.ev_fields.specs.Kinds.{each}
use Rattle.ev_fields.specs.Places.{items_at}
use Rattle.ev_json.proofs.Loop.{with_front}
use Rattle.ev_json.proofs.list.each.Given as goal

abbrev pub invariant-loop-value : goal.invariant-loop-value
invariant-loop-value g l = with_front l.list.items (each g.T.Read.reading (items_at l.values)) ≡ each g.T.Read.reading (items_at l.fn.values)

abbrev pub decreases-loop-value : goal.decreases-loop-value
decreases-loop-value g l = length l.values
