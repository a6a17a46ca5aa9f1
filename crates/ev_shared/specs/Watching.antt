-- What a watch of one key is told: the revisions that put the key, in order (etcd API reference, "Watch").
use Rattle.std.specs.Prelude.{◌≡◌, ℕ, ◌<◌, ◌≤◌, ◌^◌, ℤ, pos, ◌≤ℤ◌, ◌<ℤ◌, false, List, [], ◌∷◌, length, Option, Some, None, if◌then◌else◌}
use Rattle.std.specs.FinMap.{get}
use Rattle.std.specs.Ordering.{int_eq}
use Rattle.ev_types.specs.Store.{Store, store_at}
use Rattle.ev_types.specs.declared.answer.Answer.{Answer}
use Rattle.ev_types.specs.declared.answer.Answer.TheVariants as answer
use Rattle.ev_types.specs.declared.answer.Kv.{Kv}
use Rattle.ev_types.specs.declared.ask.RangeReq.{RangeReq}
use Rattle.ev_store.specs.declared.fault.Denied.TheVariants as denied
use Rattle.ev_store.specs.declared.fault.StoreFault.{StoreFault}
use Rattle.ev_store.specs.declared.fault.StoreFault.TheVariants as fault
use Rattle.ev_shared.specs.declared.watch.Look.{Look}
use Rattle.ev_shared.specs.declared.watch.Look.TheVariants as look
use Rattle.ev_shared.specs.declared.shared_store.Watched.{Watched}
use Rattle.ev_shared.specs.declared.shared_store.Watched.TheVariants as watched
use Rattle.zx_base.specs.Maps.{Bytes}

-- a key as it is after a revision, if that revision put it
abbrev pub put_by : ℤ → Option Kv → Option Kv
put_by r None = None
put_by r (Some kv) = if int_eq kv.mod_revision r then Some kv else None

-- what revision n put at the key
abbrev pub put_at : Store → Bytes → ℕ → Option Kv
put_at s k n = put_by (pos n) (get (store_at s n) k)

-- no revision from the first of these up to the other puts the key
abbrev pub NonePut : Store → Bytes → ℕ → ℕ → Type 0
NonePut s k from to = (n : ℕ) → from ≤ n → n < to → put_at s k n ≡ None

-- the first put from a revision on; or that there is none yet; or that the revision was compacted
abbrev pub Looks : Store → Bytes → ℕ → Look → Type 0
Looks s k from (look.Put kv) = (n : ℕ) × (from ≤ n) × (n < 2 ^ 62) × (put_at s k n ≡ Some kv) × NonePut s k from n
Looks s k from (look.Waits next) = (from ≤ next) × (length s.revisions < next) × (next ≤ 2 ^ 62) × NonePut s k from next
Looks s k from (look.Compacted floor) = (floor ≡ s.floor) × (pos from <ℤ floor)

-- What a watch of this key is told next: a put of the key, at the revision that it waits for or a later one, below 2^62; or where to go
-- on from, which is no earlier; or, where the revision that it waits for was compacted, the least that was not.
abbrev pub IsNext : Bytes → ℕ → Watched → Type 0
IsNext k from (watched.Put kv) = (kv.key ≡ k) × (pos from ≤ℤ kv.mod_revision) × (kv.mod_revision <ℤ pos (2 ^ 62))
IsNext k from (watched.Compacted floor) = pos from <ℤ floor
IsNext k from (watched.Waits next) = (from ≤ next) × (next ≤ 2 ^ 62)
IsNext k from watched.Closed = Unit {0}
IsNext k from watched.Memory = Unit {0}

-- ---- for clauses of private functions

-- the range of one key at a revision
abbrev pub key_at : Bytes → ℕ → RangeReq
key_at k n = record { key = k; end = []; revision = pos n; limit = pos 0; keys_only = false }

abbrev pub listed : Option Kv → List Kv
listed None = []
listed (Some kv) = kv ∷ []

abbrev pub found_in : Answer → List Kv
found_in (answer.Range revision found) = found.kvs
found_in (answer.Txn revision succeeded parts) = []
found_in (answer.Granted revision id ttl) = []
found_in (answer.Alive revision id ttl) = []

-- why a revision is not shown: it was compacted, or is still to come, or memory ran out
abbrev pub Unseen : Store → ℕ → StoreFault → Type 0
Unseen s n (fault.Denied (denied.Compacted asked floor)) = (floor ≡ s.floor) × (pos n <ℤ floor)
Unseen s n (fault.Denied (denied.Future asked revision)) = length s.revisions < n
Unseen s n (fault.Denied (denied.LeaseExists id)) = ⊥
Unseen s n (fault.Denied (denied.NoLease id)) = ⊥
Unseen s n (fault.Denied (denied.TooMany count)) = ⊥
Unseen s n (fault.Denied (denied.Twice key)) = ⊥
Unseen s n (fault.Denied (denied.Full revision)) = ⊥
Unseen s n fault.Memory = Unit {0}
