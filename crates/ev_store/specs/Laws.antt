-- The laws of the store's asks, reads, puts and compactions.
use Rattle.std.specs.Prelude.{◌≡◌, ℕ, ◌+◌, ◌≤◌, ℤ, pos, ◌≤ℤ◌, true, false, is_some, is_none, List, [], ◌++◌, map, length, slice_get, Some}
use Rattle.std.specs.FinMap.{get, empty}
use Rattle.std.specs.Int.{int_max}
use Rattle.std.specs.List.{filter, All}
use Rattle.std.specs.Option.{option_map}
use Rattle.ev_types.specs.declared.answer.Answer.{Answer}
use Rattle.ev_types.specs.declared.answer.Answer.TheVariants as answer
use Rattle.ev_types.specs.declared.ask.Ask.{Ask}
use Rattle.ev_types.specs.declared.ask.Ask.TheVariants as ask
use Rattle.ev_types.specs.declared.ask.RangeReq.{RangeReq}
use Rattle.ev_types.specs.Ranges.{Keys, found}
use Rattle.ev_types.specs.Store.{mod_of, store_at, present, after_changes, Change, Store, revision}
use Rattle.ev_types.specs.Denials.{is_compacted, is_denied, carry}
use Rattle.ev_types.specs.Lapses.{lapse, foreign}
use Rattle.zx_base.specs.Maps.{Bytes}
use Rattle.ev_store.specs.Changes.{writes_once}
use Rattle.ev_store.specs.Compaction.{compact}
use Rattle.ev_store.specs.Events.{puts_in, puts_above, is_put, put_of}
use Rattle.ev_store.specs.FirstDenial.{first_denial, lapse_denial, foreign_denial, compact_denial}

-- ---- denials

-- an ask is denied exactly where a denial is named
abbrev pub DeniedAsksAreNamed : Type 0
DeniedAsksAreNamed = (s : Store) (a : Ask) → is_some (first_denial s a) ≡ is_denied s a

-- a lapse is denied exactly where a denial is named
abbrev pub DeniedLapsesAreNamed : Type 0
DeniedLapsesAreNamed = (s : Store) (id : ℤ) → is_some (lapse_denial s id) ≡ is_none (lapse s id)

-- a put of another user is denied exactly where a denial is named
abbrev pub DeniedForeignPutsAreNamed : Type 0
DeniedForeignPutsAreNamed = (s : Store) (k v : Bytes) → is_some (foreign_denial s k v) ≡ is_none (foreign s k v)

-- a compaction is denied exactly where a denial is named
abbrev pub DeniedCompactionsAreNamed : Type 0
DeniedCompactionsAreNamed = (s : Store) (r : ℤ) → is_some (compact_denial s r) ≡ is_none (compact s r)

-- ---- the past

-- where a key's last put has the same revision at two points of a store's history, the key is the same at both: it is there with
-- one value, version and lease, or it is absent
abbrev pub ARevisionHasOneValue : Type 0
ARevisionHasOneValue = (s : Store) (a b : ℕ) (k : Bytes) → mod_of (get (store_at s a) k) ≡ mod_of (get (store_at s b) k)
    → get (store_at s a) k ≡ get (store_at s b) k

-- a store that took an ask has the keys of each earlier revision as they were
abbrev pub AsksKeepThePast : Type 0
AsksKeepThePast = (s new : Store) (a : Ask) (given : Answer) (r : ℕ) → carry s a ≡ Some (new, given) → r ≤ length s.revisions
    → store_at new r ≡ store_at s r

-- before revision 1 a store has no keys
abbrev pub StoresBeginEmpty : Type 0
StoresBeginEmpty = (s : Store) → store_at s 0 ≡ empty

-- each revision makes its changes to the keys before it
abbrev pub RevisionsFollow : Type 0
RevisionsFollow = (s : Store) (r : ℕ) (cs : List Change) → slice_get s.revisions r ≡ Some cs
    → store_at s (r + 1) ≡ after_changes (pos (r + 1)) (store_at s r) cs

-- the present is the last revision
abbrev pub PresentIsLast : Type 0
PresentIsLast = (s : Store) (r : ℕ) → length s.revisions ≤ r → store_at s r ≡ present s

-- a range of revision 0 that is not denied is of the present
abbrev pub ReadsOfThePresent : Type 0
ReadsOfThePresent = (s : Store) (q : RangeReq) → q.revision ≡ pos 0 → is_denied s (ask.Range q) ≡ false
    → carry s (ask.Range q) ≡ Some (s, answer.Range (revision s) (found q (present s)))

-- a range that names a revision and is not denied is of that revision
abbrev pub ReadsOfThePast : Type 0
ReadsOfThePast = (s : Store) (q : RangeReq) (r : ℕ) → 1 ≤ r → q.revision ≡ pos r → is_denied s (ask.Range q) ≡ false
    → carry s (ask.Range q) ≡ Some (s, answer.Range (revision s) (found q (store_at s r)))

-- ---- the puts that a watch shows

-- the puts above a revision are those of the next one, and then those above that
abbrev pub PutsFollow : Type 0
PutsFollow = (s : Store) (r : ℕ) (cs : List Change) → slice_get s.revisions r ≡ Some cs
    → puts_above s r ≡ puts_in (pos (r + 1)) (store_at s r) cs ++ puts_above s (r + 1)

-- there are no puts above the last revision
abbrev pub NoPutsAboveTheLast : Type 0
NoPutsAboveTheLast = (s : Store) (r : ℕ) → length s.revisions ≤ r → puts_above s r ≡ []

-- the puts of a revision are the puts among its changes, in their order
abbrev pub PutsAreOfChanges : Type 0
PutsAreOfChanges = (r : ℤ) (m : Keys) (cs : List Change) → map put_of (puts_in r m cs) ≡ filter is_put cs

-- each put of a revision has that revision
abbrev pub PutsHaveTheirRevision : Type 0
PutsHaveTheirRevision = (r : ℤ) (m : Keys) (cs : List Change) → All (λ kv. kv.mod_revision ≡ r) (puts_in r m cs)

-- where no key is changed twice in a revision, each put is the key as the store then has it
abbrev pub PutsAreTheKeys : Type 0
PutsAreTheKeys = (s : Store) (r : ℕ) (cs : List Change) → slice_get s.revisions r ≡ Some cs → writes_once cs ≡ true
    → All (λ kv. get (store_at s (r + 1)) kv.key ≡ Some kv) (puts_in (pos (r + 1)) (store_at s r) cs)

-- ---- compactions

-- a compaction changes the floor alone
abbrev pub CompactionMovesTheFloor : Type 0
CompactionMovesTheFloor = (s new : Store) (r : ℤ) → compact s r ≡ Some new → new ≡ record s { floor = int_max r s.floor }

-- after a compaction the floor is at the revision or above it
abbrev pub CompactionReachesItsRevision : Type 0
CompactionReachesItsRevision = (s new : Store) (r : ℤ) → compact s r ≡ Some new → r ≤ℤ new.floor

-- a compaction never lowers the floor
abbrev pub FloorNeverFalls : Type 0
FloorNeverFalls = (s new : Store) (r : ℤ) → compact s r ≡ Some new → s.floor ≤ℤ new.floor

-- a compaction keeps the keys of each revision
abbrev pub CompactionKeepsKeys : Type 0
CompactionKeepsKeys = (s new : Store) (r : ℤ) (n : ℕ) → compact s r ≡ Some new → store_at new n ≡ store_at s n

-- a range that names no compacted revision is answered as before the compaction
abbrev pub CompactionKeepsReads : Type 0
CompactionKeepsReads = (s new : Store) (r : ℤ) (q : RangeReq) → compact s r ≡ Some new → is_compacted new q.revision ≡ false
    → option_map (λ x. x.1) (carry new (ask.Range q)) ≡ option_map (λ x. x.1) (carry s (ask.Range q))
