-- When leases are over (etcd API reference, "Lease": a lease expires where no keepalive came within its seconds).
use Rattle.std.specs.Prelude.{◌≡◌, ◌⊎◌, ℕ, ◌+◌, ◌*◌, nat_le, nat_abs, ℤ, pos, Bool, true, not, List, [], ◌∷◌, ◌++◌, filter, take, if◌then◌else◌}
use Rattle.std.specs.Ordering.{int_eq}
use Rattle.ev_types.specs.Store.{Store}
use Rattle.ev_types.specs.declared.answer.Answer.{Answer}
use Rattle.ev_types.specs.declared.answer.Answer.TheVariants as answer
use Rattle.ev_shared.specs.History.{IsFull, IsSettled, lapsed}
use Rattle.ev_shared.specs.declared.term.Term.{Term}

-- the lease's seconds have passed since its grant or its last keepalive; moments are in milliseconds
abbrev pub is_over : ℕ → Term → Bool
is_over now t = nat_le (t.since + t.seconds * 1000) now

-- a lease whose seconds have passed is gone, or the store is full
abbrev pub LapsesBy : ℕ → Store → Term → Type 0
LapsesBy now s t = is_over now t ≡ true → IsSettled s t.id

-- ---- the leases that lapse before an ask

-- a lease lapses where its seconds have passed, and otherwise stays
abbrev pub swept_one : ℕ → Term → Store → Store
swept_one now t s = if is_over now t then lapsed s t.id else s

-- one after the other
abbrev pub swept : ℕ → List Term → Store → Store
swept now [] s = s
swept now (t ∷ terms) s = swept now terms (swept_one now t s)

-- The first of these leases lapsed where their seconds had passed, one after the other, until one found no memory.
abbrev pub IsSweptPartly : ℕ → List Term → Store → Store → Type 0
IsSweptPartly now terms s t = (n : ℕ) × (t ≡ swept now (take n terms) s)

-- The terms that are not over stay. In a full store all of them may: a lease that has keys is there still.
abbrev pub Stay : ℕ → Store → List Term → List Term → Type 0
Stay now s old stay = (stay ≡ filter (λ t. not (is_over now t)) old) ⊎ ((stay ≡ old) × IsFull s)

-- What is left where memory was refused before the ask was carried out: of the leases whose seconds had passed some have lapsed, and no
-- term is gone; or all have, and the terms are as before any ask.
abbrev pub IsLeft : ℕ → List Term → Store → List Term → Store → Type 0
IsLeft now terms s terms' s' = (IsSweptPartly now terms s s' × (terms' ≡ terms)) ⊎ ((s' ≡ swept now terms s) × Stay now s' terms terms')

-- ---- the terms that an answer begins

abbrev pub is_of : ℤ → Term → Bool
is_of id t = int_eq t.id id

-- a lease has so many seconds from now on
abbrev pub begun : ℕ → ℤ → ℤ → List Term → List Term
begun now id seconds terms = filter (λ t. not (is_of id t)) terms ++ record { id = id; seconds = nat_abs seconds; since = now } ∷ []

-- A grant begins the seconds of its lease. A keepalive begins them anew, whether the grant was seen or not; one that is answered
-- no seconds is of no lease.
abbrev pub terms_after : ℕ → Answer → List Term → List Term
terms_after now (answer.Granted revision id seconds) terms = begun now id seconds terms
terms_after now (answer.Alive revision id seconds) terms = if int_eq seconds (pos 0) then terms else begun now id seconds terms
terms_after now (answer.Txn revision succeeded parts) terms = terms
terms_after now (answer.Range revision found) terms = terms
