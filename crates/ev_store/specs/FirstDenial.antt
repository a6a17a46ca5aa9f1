-- The denial that a store names: where several causes stand, the first in the order in which these definitions list them.
use Rattle.std.specs.Prelude.{ℕ, ℤ, pos, int_lt, List, [], ◌∷◌, length, nat_lt, if◌then◌else◌, ◌≡◌, Option, Some, None}
use Rattle.std.specs.List.{list_any}
use Rattle.std.specs.Option.{option_or, option_map}
use Rattle.ev_types.specs.declared.ask.Act.{Act}
use Rattle.ev_types.specs.declared.ask.Act.TheVariants as act
use Rattle.ev_types.specs.declared.ask.TxnReq.{TxnReq}
use Rattle.ev_types.specs.declared.ask.RangeReq.{RangeReq}
use Rattle.ev_types.specs.declared.ask.Ask.{Ask}
use Rattle.ev_types.specs.declared.ask.Ask.TheVariants as ask
use Rattle.ev_types.specs.Store.{Store, Change, Puts, revision, worked}
use Rattle.ev_types.specs.Denials.{has_lease, lacks_lease, is_future, is_compacted, writes, puts, max_operations, is_full_store, chosen_acts}
use Rattle.ev_types.specs.Lapses.{leased_keys, removals}
use Rattle.ev_store.specs.declared.fault.Denied.{Denied}
use Rattle.ev_store.specs.declared.fault.Denied.TheVariants as denied
use Rattle.ev_store.specs.declared.fault.StoreFault.{StoreFault}
use Rattle.ev_store.specs.declared.fault.StoreFault.TheVariants as fault
use Rattle.zx_base.specs.Maps.{Bytes}

-- ---- one test each

-- so many compares or operations are more than an etcd takes
abbrev pub too_many : ℕ → Option Denied
too_many count = if nat_lt max_operations count then Some (denied.TooMany count) else None

-- the operation's key, where a later one of its list writes it and may not: a put allows no other write of its key, and a delete
-- allows no put of it
abbrev pub written_again : Act → List Act → Option Bytes
written_again (act.Put k v lease) later = if list_any (writes k) later then Some k else None
written_again (act.Delete k) later = if list_any (puts k) later then Some k else None
written_again (act.Range q) later = None

-- the key of the first operation whose key a later one writes and may not
abbrev pub first_again : List Act → Option Bytes
first_again [] = None
first_again (a ∷ later) = option_or (written_again a later) (first_again later)

abbrev pub twice : List Act → Option Denied
twice acts = option_map denied.Twice (first_again acts)

-- a range names a revision above the store's, or one other than 0 below the floor
abbrev pub range_denial : Store → RangeReq → Option Denied
range_denial s q =
    if is_future s q.revision then Some (denied.Future q.revision (revision s))
    else if is_compacted s q.revision then Some (denied.Compacted q.revision s.floor)
    else None

-- a put names a lease that isn't there
abbrev pub lease_denial : Store → ℤ → Option Denied
lease_denial s lease = if lacks_lease s lease then Some (denied.NoLease lease) else None

abbrev pub act_denial : Store → Act → Option Denied
act_denial s (act.Put k v lease) = lease_denial s lease
act_denial s (act.Delete k) = None
act_denial s (act.Range q) = range_denial s q

abbrev pub acts_denial : Store → List Act → Option Denied
acts_denial s [] = None
acts_denial s (a ∷ acts) = option_or (act_denial s a) (acts_denial s acts)

-- something would change, and the store stands at its last revision
abbrev pub full : Store → List Change → Option Denied
full s changes = if is_full_store s changes then Some (denied.Full (revision s)) else None

-- a grant names a lease that is there
abbrev pub grant_denial : Store → ℤ → Option Denied
grant_denial s id = if has_lease s id then Some (denied.LeaseExists id) else None

-- ---- in their order

-- the guards, the success list, the failure list
abbrev pub long_list : TxnReq → Option Denied
long_list t = option_or (too_many (length t.guards)) (option_or (too_many (length t.success)) (too_many (length t.failure)))

-- what the transaction alone shows, whatever the store: a list that is too long; then a key that a list writes twice
abbrev pub form_denial : TxnReq → Option Denied
form_denial t = option_or (long_list t) (option_or (twice t.success) (twice t.failure))

-- first what the transaction alone shows; then what the operations of the chosen list name, one after the other; last, that the
-- store is full
abbrev pub txn_denial : Store → TxnReq → Option Denied
txn_denial s t = option_or (form_denial t) (option_or (acts_denial s (chosen_acts s t)) (full s (worked s (chosen_acts s t)).changes))

unfoldable pub first_denial : Store → Ask → Option Denied
first_denial s (ask.Txn t) = txn_denial s t
first_denial s (ask.Range q) = range_denial s q
first_denial s (ask.Grant id ttl) = grant_denial s id
first_denial s (ask.Alive id) = None

-- ---- of the other calls

-- a lapse: the lease isn't there; then, that the store is full
unfoldable pub lapse_denial : Store → ℤ → Option Denied
lapse_denial s id = if has_lease s id then full s (removals (leased_keys s id)) else Some (denied.NoLease id)

-- a put of another user: that the store is full
abbrev pub foreign_denial : Store → Bytes → Bytes → Option Denied
foreign_denial s k v = full s (Puts k v (pos 0) ∷ [])

-- the events above a revision: it is below the floor, as 0 can be too
abbrev pub events_denial : Store → ℤ → Option Denied
events_denial s r = if int_lt r s.floor then Some (denied.Compacted r s.floor) else None

-- a compaction: the store has no such revision yet
abbrev pub compact_denial : Store → ℤ → Option Denied
compact_denial s r = if is_future s r then Some (denied.Future r (revision s)) else None

-- ---- as a fault

-- a fault is this denial, or out of memory
abbrev pub Names : Option Denied → StoreFault → Type 0
Names o (fault.Denied d) = o ≡ Some d
Names o fault.Memory = Unit {0}
