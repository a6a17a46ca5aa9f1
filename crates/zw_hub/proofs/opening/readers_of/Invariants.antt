use Rattle.std.proofs.Common.{◌≡◌, All, vec_len}
use Rattle.std.specs.Arc.{arc_value}
use Rattle.zw_hub.specs.Readers.{ReaderState, new_reader}
use Rattle.zw_hub.proofs.opening.readers_of.Given as goal

abbrev pub invariant-loop : goal.invariant-loop
invariant-loop l = (vec_len l.readers ≡ l.counter) × All (λ (reader : ReaderState). reader ≡ new_reader (arc_value l.places.board).shared.table_id) l.readers.items
