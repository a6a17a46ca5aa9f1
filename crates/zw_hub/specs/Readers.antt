-- What contracts see of a reader.
use Rattle.std.specs.Prelude.{ℕ, pos}
use Rattle.atomic_table.specs.Seated.{TableId}
use Rattle.zw_hub.specs.declared.published.Published.{Published}
use Rattle.zw_hub.specs.Lists.{empty}

-- the table that it shares with the hub, the list that it read last, how many reads it made, and how often it was answered that it
-- lagged, and that the list is closed
pub record ReaderState : Type 0 where
  pub table : TableId
  pub list : Published
  pub reads : ℕ
  pub lags : ℕ
  pub closings : ℕ

-- a reader of this table that has read nothing
abbrev pub new_reader : TableId → ReaderState
new_reader table = record { table = table; list = empty (pos 0); reads = 0; lags = 0; closings = 0 }
