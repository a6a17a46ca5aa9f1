use Rattle.std.proofs.Common.{◌≡◌, subst}
use Rattle.std.specs.Prelude.{All}
use Rattle.atomic_table.specs.Seated.{TableId}
use Rattle.zw_hub.specs.Readers.{ReaderState, new_reader}
use Rattle.zw_hub.proofs.opening.hub.Goals as goal

pub returns-clause-readers : goal.returns-clause-readers
returns-clause-readers g c = subst (λ (table : TableId). All (λ (reader : ReaderState). reader ≡ new_reader table) c.in_ok-readers.readers.items) c.factory.ensures c.in_ok-readers.ensures.readers
