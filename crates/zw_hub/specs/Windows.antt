-- The newest entries as they are kept, and the list that they are the end of.
use Rattle.std.specs.Prelude.{◌≡◌}
use Rattle.circular_buffer.specs.Buffer.{keep_last}
use Rattle.zw_hub.specs.declared.published.Published.{Published}
use Rattle.zw_hub.specs.declared.window.Window.TheInside.{Inside}
use Rattle.zw_hub.specs.Lists.{max_kept, last_number, IsNumbered}

-- all that was published, as a list
abbrev pub published : Inside → Published
published w = record { first = w.first; entries = w.all.items; end = w.end; forgotten = w.forgotten }

-- the ring has the newest entries of the list, and room for as many as are kept; the last number is the list's, and the numbers of
-- its entries are consecutive
pub record IsWindow (w : Inside) : Type 0 where
  pub newest : w.ring.items ≡ keep_last max_kept w.all.items
  pub room : w.ring.capacity ≡ max_kept
  pub last : w.last ≡ last_number (published w)
  pub numbered : IsNumbered (published w)
