-- An ask that was read can be carried out, and a key that is to be watched can be.
use Rattle.std.proofs.Common.{◌≤◌, ◌^◌, arith}
use Rattle.std.proofs.lemmas.Int.{ints}
use Rattle.std.specs.Prelude.{ℤ, pos, nat_abs, ◌≤ℤ◌, ◌<ℤ◌}
use Rattle.ev_types.specs.declared.ask.Ask.{Ask}
use Rattle.ev_types.specs.declared.ask.Ask.TheVariants as ask
use Rattle.ev_call.specs.Asks.{IsGrantable}
use Rattle.ev_fields.specs.Ranges.{IsPositiveCount, IsPositiveLease}
use Rattle.ev_json.specs.Ranges.{AskFits}

one : (id : ℤ) → IsPositiveLease id → pos 1 ≤ℤ id
one id h = let is = h.1 in let some = h.2 in omega (arith, ints)

least : (ttl : ℤ) → IsPositiveCount ttl → pos 0 ≤ℤ ttl
least ttl h = let is = h.1 in omega (arith, ints)

most : (ttl : ℤ) → IsPositiveCount ttl → ttl <ℤ pos (2 ^ 62)
most ttl h = let is = h.1 in let small = h.3 in omega (arith, ints)

pub grantable : (q : Ask) → AskFits q → IsGrantable q
grantable (ask.Txn t) h = tt
grantable (ask.Range q) h = tt
grantable (ask.Grant id ttl) h = (one id h.0, least ttl h.1, most ttl h.1)
grantable (ask.Alive id) h = tt

pub watchable : (from : ℤ) → IsPositiveCount from → (1 ≤ nat_abs from) × (nat_abs from ≤ 2 ^ 62)
watchable from h = let is = h.1 in let some = h.2 in let small = h.3 in (omega (arith, ints), omega (arith, ints))
