-- What contracts see of a hub.
use Rattle.std.specs.Prelude.{ℕ, ℤ}
use Rattle.atomic_table.specs.Seated.{TableId}
use Rattle.zw_hub.specs.declared.published.Published.{Published}
use Rattle.zw_hub.specs.Lists.{empty}

-- the table that it shares with its readers, the list that they see, and how many publishes and closes it has made
pub record HubState : Type 0 where
  pub table : TableId
  pub list : Published
  pub steps : ℕ

-- a hub at this table that has published nothing, whose first entry is to have the number after this one
abbrev pub new_hub : TableId → ℤ → HubState
new_hub table first = record { table = table; list = empty first; steps = 0 }
