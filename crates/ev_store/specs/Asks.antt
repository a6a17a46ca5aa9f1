-- The asks that a store takes.
use Rattle.std.specs.Prelude.{pos, ◌^◌, ◌≤ℤ◌, ◌<ℤ◌}
use Rattle.ev_types.specs.declared.ask.Ask.{Ask}
use Rattle.ev_types.specs.declared.ask.Ask.TheVariants as ask

-- a grant's number is at least 1, and its seconds are from 0 to below 2 ^ 62
abbrev pub IsGrantable : Ask → Type 0
IsGrantable (ask.Grant id ttl) = (pos 1 ≤ℤ id) × (pos 0 ≤ℤ ttl) × (ttl <ℤ pos (2 ^ 62))
IsGrantable (ask.Txn t) = Unit {0}
IsGrantable (ask.Range q) = Unit {0}
IsGrantable (ask.Alive id) = Unit {0}
