-- The open sessions by the connections that they are attached to.
use Rattle.std.specs.Prelude.{◌≡◌, ◌==◌, ◌≤ℤ◌, ℕ, ℤ, negsuc, Bool, true, false, Option, Some, None}
use Rattle.std.specs.BTreeSet.{BTreeSet, contains}
use Rattle.std.specs.Ordering.{int_cmp, nat_cmp, ordering_then}
use Rattle.std.specs.declared.cmp.Ordering.{Ordering}
use Rattle.std.specs.FinMap.{get}
use Rattle.zk_service.specs.States.{Session, Sessions}

-- a connection and the number of a session
abbrev pub Pair : Type 0
Pair = ℕ × ℤ

abbrev pub pair_order : Pair → Pair → Ordering
pair_order p q = ordering_then (nat_cmp p.0 q.0) (int_cmp p.1 q.1)

abbrev pub has : BTreeSet Pair → ℕ → ℤ → Bool
has pairs c id = contains pair_order pairs (c, id)

abbrev pub is_on : ℕ → Option Session → Bool
is_on c None = false
is_on c (Some s) = c == s.connection

-- the least `long`: no session has a number below it
abbrev pub least_id : ℤ
least_id = negsuc 9223372036854775807

-- the pairs are the open sessions, each with its connection, and the sessions' numbers are not below the least `long`
pub record AreAttached (m : Sessions) (pairs : BTreeSet Pair) : Type 0 where
  pub each : (c : ℕ) (id : ℤ) → has pairs c id ≡ is_on c (get m id)
  pub longs : (id : ℤ) (s : Session) → get m id ≡ Some s → least_id ≤ℤ id

-- the least number, not below the least `long`, of a session on a connection, or None where there is none
abbrev pub IsLeastAttached : BTreeSet Pair → ℕ → Option ℤ → Type 0
IsLeastAttached pairs c None = (id : ℤ) → least_id ≤ℤ id → has pairs c id ≡ false
IsLeastAttached pairs c (Some first) = (has pairs c first ≡ true) × ((id : ℤ) → least_id ≤ℤ id → has pairs c id ≡ true → first ≤ℤ id)
