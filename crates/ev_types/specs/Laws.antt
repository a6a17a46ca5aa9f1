-- The laws of a store.
use Rattle.std.specs.Prelude.{◌≤ℤ◌, ◌<ℤ◌, ◌≡◌, ℕ, ◌≤◌, ℤ, List, [], pos, ◌+ℤ◌, true, false, if◌then◌else◌, length, Some, None}
use Rattle.std.specs.FinMap.{get, remove}
use Rattle.zx_base.specs.Maps.{Bytes, same}
use Rattle.ev_types.specs.declared.answer.Kv.{Kv}
use Rattle.ev_types.specs.declared.ask.Act.{Act}
use Rattle.ev_types.specs.declared.ask.Ask.TheVariants as ask
use Rattle.ev_types.specs.Denials.{has_lease, max_operations, is_denied}
use Rattle.ev_types.specs.Lapses.{is_leased, lapse, foreign}
use Rattle.ev_types.specs.Ranges.{Keys, found}
use Rattle.ev_types.specs.Reads.{are_present_reads, key_range, one_found}
use Rattle.ev_types.specs.Store.{Store, revision, last_revision, present, put_over, store_at, worked}

-- ---- a lapse

-- lease 0, which is none, never lapses
abbrev pub ZeroNeverLapses : Type 0
ZeroNeverLapses = (s : Store) → lapse s (pos 0) ≡ None

-- only a lease that is there lapses
abbrev pub OnlyLeasesLapse : Type 0
OnlyLeasesLapse = (s new : Store) (id : ℤ) → lapse s id ≡ Some new → has_lease s id ≡ true

-- a lease that is there can lapse while there is a revision to come
abbrev pub LeasesCanLapse : Type 0
LeasesCanLapse = (s : Store) (id : ℤ) → has_lease s id ≡ true → revision s <ℤ last_revision → (new : Store) × (lapse s id ≡ Some new)

-- a lapse takes the lease's keys and leaves every other key
abbrev pub LapseTakesItsKeys : Type 0
LapseTakesItsKeys = (s new : Store) (id : ℤ) (k : Bytes) → lapse s id ≡ Some new
    → get (present new) k ≡ (if is_leased id (get (present s) k) then None else get (present s) k)

-- a lapse takes the lease and leaves every other lease
abbrev pub LapseTakesItsLease : Type 0
LapseTakesItsLease = (s new : Store) (id : ℤ) → lapse s id ≡ Some new → new.leases ≡ remove s.leases id

-- a lapse makes one revision where the lease had a key
abbrev pub LapseMakesARevision : Type 0
LapseMakesARevision = (s new : Store) (id : ℤ) (k : Bytes) → lapse s id ≡ Some new → is_leased id (get (present s) k) ≡ true
    → revision new ≡ revision s +ℤ pos 1

-- a lapse makes no revision where the lease had no key
abbrev pub LapseOfNoKeys : Type 0
LapseOfNoKeys = (s new : Store) (id : ℤ) → lapse s id ≡ Some new → ((k : Bytes) → is_leased id (get (present s) k) ≡ false)
    → revision new ≡ revision s

-- a lapse leaves every earlier revision
abbrev pub LapseKeepsThePast : Type 0
LapseKeepsThePast = (s new : Store) (id : ℤ) (r : ℕ) → lapse s id ≡ Some new → r ≤ length s.revisions → store_at new r ≡ store_at s r

-- ---- a put of another user

-- a put of another user is possible while there is a revision to come
abbrev pub ForeignCanPut : Type 0
ForeignCanPut = (s : Store) (k v : Bytes) → revision s <ℤ last_revision → (new : Store) × (foreign s k v ≡ Some new)

-- a put of another user is not possible where there is no revision to come
abbrev pub ForeignNeedsARevision : Type 0
ForeignNeedsARevision = (s : Store) (k v : Bytes) → last_revision ≤ℤ revision s → foreign s k v ≡ None

-- a put of another user puts that one key, without a lease, and leaves every other key
abbrev pub ForeignPutsOneKey : Type 0
ForeignPutsOneKey = (s new : Store) (k v q : Bytes) → foreign s k v ≡ Some new
    → get (present new) q ≡ (if same q k then Some (put_over (revision new) k v (pos 0) (get (present s) k)) else get (present s) q)

-- a put of another user leaves the leases
abbrev pub ForeignKeepsLeases : Type 0
ForeignKeepsLeases = (s new : Store) (k v : Bytes) → foreign s k v ≡ Some new → new.leases ≡ s.leases

-- a put of another user makes one revision
abbrev pub ForeignMakesARevision : Type 0
ForeignMakesARevision = (s new : Store) (k v : Bytes) → foreign s k v ≡ Some new → revision new ≡ revision s +ℤ pos 1

-- a put of another user leaves every earlier revision
abbrev pub ForeignKeepsThePast : Type 0
ForeignKeepsThePast = (s new : Store) (k v : Bytes) (r : ℕ) → foreign s k v ≡ Some new → r ≤ length s.revisions
    → store_at new r ≡ store_at s r

-- ---- reads

-- a transaction of at most 128 reads of the present, with no guards and no failure list, is not denied
abbrev pub ReadsAreAllowed : Type 0
ReadsAreAllowed = (s : Store) (acts : List Act) → length acts ≤ max_operations → are_present_reads acts ≡ true
    → is_denied s (ask.Txn (record { guards = []; success = acts; failure = [] })) ≡ false

-- reads of the present change nothing
abbrev pub ReadsChangeNothing : Type 0
ReadsChangeNothing = (s : Store) (acts : List Act) → are_present_reads acts ≡ true → (worked s acts).changes ≡ []

-- a range of one key finds what the key has, or nothing
abbrev pub OneKeyIsFound : Type 0
OneKeyIsFound = (key : Bytes) (keys : Keys) → found (key_range key) keys ≡ one_found (get keys key)

-- ---- the keys that are there

-- each key that is there was put at revision 1 or later
abbrev pub KeysWerePut : Type 0
KeysWerePut = (s : Store) (k : Bytes) (kv : Kv) → get (present s) k ≡ Some kv → pos 1 ≤ℤ kv.mod_revision

-- each key that is there was put at the store's revision or earlier
abbrev pub KeysWerePutByNow : Type 0
KeysWerePutByNow = (s : Store) (k : Bytes) (kv : Kv) → get (present s) k ≡ Some kv → kv.mod_revision ≤ℤ revision s
