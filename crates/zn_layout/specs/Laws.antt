-- The laws of the layout.
use Rattle.std.specs.Prelude.{◌≡◌, ℕ, ◌+◌, ◌^◌, ◌<◌, ◌≤◌, ℤ, pos, ◌≤ℤ◌, ◌<ℤ◌, List, ◌∷◌, [], ◌++◌, length, map, sum_by, Some, None, true, false, IsTrue}
use Rattle.std.specs.FinMap.{get, keys as map_keys}
use Rattle.std.specs.List.{list_all, All}
use Rattle.ev_types.specs.declared.answer.Kv.{Kv}
use Rattle.ev_types.specs.declared.answer.ActAns.{ActAns}
use Rattle.ev_types.specs.declared.answer.ActAns.TheVariants as part
use Rattle.ev_types.specs.declared.answer.Answer.{Answer}
use Rattle.ev_types.specs.declared.answer.Answer.TheVariants as answer
use Rattle.ev_types.specs.declared.ask.Act.{Act}
use Rattle.ev_types.specs.declared.ask.Act.TheVariants as act
use Rattle.ev_types.specs.declared.ask.Ask.TheVariants as ask
use Rattle.ev_types.specs.declared.ask.Guard.{Guard}
use Rattle.ev_types.specs.declared.ask.RangeReq.{RangeReq}
use Rattle.ev_types.specs.declared.ask.TxnReq.{TxnReq}
use Rattle.ev_types.specs.Denials.{max_operations, chosen_acts, is_denied, carry}
use Rattle.ev_types.specs.Lapses.{lapse, foreign}
use Rattle.ev_types.specs.Ranges.{Keys}
use Rattle.ev_types.specs.Reads.{are_present_reads, one_found}
use Rattle.ev_types.specs.Sizes.{act_size, guard_size, txn_size, max_txn_size, IsSendable}
use Rattle.ev_types.specs.Store.{Store, revision, last_revision, present, holds, worked, acts_applied}
use Rattle.zk_model.specs.declared.node.Trigger.{Trigger}
use Rattle.zk_model.specs.Paths.{is_path, parent}
use Rattle.zk_model.specs.Znodes.{children}
use Rattle.zk_service.specs.States.{State, IsSound, IsBounded, session_at, lapsed_in}
use Rattle.zx_base.specs.Maps.{Bytes}
use Rattle.zn_layout.specs.declared.record.CountRec.{CountRec}
use Rattle.zn_layout.specs.declared.record.LeaseRec.{LeaseRec}
use Rattle.zn_layout.specs.declared.record.NodeRec.{NodeRec}
use Rattle.zn_layout.specs.declared.record.SessionRec.{SessionRec}
use Rattle.zn_layout.specs.Begin.{begin_ask, Begins}
use Rattle.zn_layout.specs.Changes.{KeyChange, head_put, update_acts, last, are_distinct, have_leases, change_size}
use Rattle.zn_layout.specs.Commits.{IsCommitted}
use Rattle.zn_layout.specs.Fits.{ChangesFit, IsNextState}
use Rattle.zn_layout.specs.Keys.{Key, DataKey, HeadKey, front, key_bytes}
use Rattle.zn_layout.specs.Listing.{child_front, children_found, HasValidPaths}
use Rattle.zn_layout.specs.Records.{node_value, counts_value, session_value, lease_value, head_value, IsNodeRec, IsCountRec, IsSessionRec, IsLeaseRec, IsHeadRec}
use Rattle.zn_layout.specs.StandsFor.{at, StandsFor}
use Rattle.zn_layout.specs.Updates.{with_head_key, guards_at, update_ask, update_txn, IsAsSeen}

-- ---- the bytes of keys and values

-- no two keys have the same bytes
abbrev pub KeyBytesIsInjective : Type 0
KeyBytesIsInjective = (k l : Key) → key_bytes k ≡ key_bytes l → k ≡ l

-- no two records of a node within their bounds have the same value
abbrev pub NodeValueIsInjective : Type 0
NodeValueIsInjective = (r q : NodeRec) → IsNodeRec r → IsNodeRec q → node_value r ≡ node_value q → r ≡ q

-- no two records of counts within their bounds have the same value
abbrev pub CountsValueIsInjective : Type 0
CountsValueIsInjective = (r q : CountRec) → IsCountRec r → IsCountRec q → counts_value r ≡ counts_value q → r ≡ q

-- no two records of a session's life within their bounds have the same value
abbrev pub LeaseValueIsInjective : Type 0
LeaseValueIsInjective = (r q : LeaseRec) → IsLeaseRec r → IsLeaseRec q → lease_value r ≡ lease_value q → r ≡ q

-- no two records of a session's nodes within their bounds have the same value
abbrev pub SessionValueIsInjective : Type 0
SessionValueIsInjective = (r q : SessionRec) → IsSessionRec r → IsSessionRec q → session_value r ≡ session_value q → r ≡ q

-- no two records of the head within their bounds have the same value
abbrev pub HeadValueIsInjective : Type 0
HeadValueIsInjective = (ts us : List Trigger) → IsHeadRec ts → IsHeadRec us → head_value ts ≡ head_value us → ts ≡ us

-- ---- changes that fit

-- changes that fit one step, followed by changes that fit the next at the same zxid, fit both steps together
abbrev pub FitsAppend : Type 0
FitsAppend = (z : ℤ) (cs ds : List KeyChange) (old mid new : State) → ChangesFit z cs old mid → ChangesFit z ds mid new
    → ChangesFit z (cs ++ ds) old new

-- whether changes fit depends only on the last change of each key
abbrev pub FitsSame : Type 0
FitsSame = (z : ℤ) (cs ds : List KeyChange) (old new : State) → ((k : Key) → last ds k ≡ last cs k) → ChangesFit z cs old new
    → ChangesFit z ds old new

-- ---- keys that stand for a state

-- where keys stand for a state and the changes of an update fit the step to the next one, the keys stand for the next state after
-- the update's operations
abbrev pub StandsAfter : Type 0
StandsAfter = (z : ℤ) (cs : List KeyChange) (ts : List Trigger) (keys : Keys) (old new : State) → pos 1 ≤ℤ z → z ≤ℤ last_revision
    → IsHeadRec ts → last cs HeadKey ≡ None → IsNextState z ts old new → StandsFor keys old → ChangesFit z cs old new
    → StandsFor (acts_applied z keys (update_acts cs ts)) new

-- where a lease lapses, the keys that are left stand for the state in which the session of that number has lapsed and nothing
-- else changed
abbrev pub LapseStands : Type 0
LapseStands = (s new : Store) (id : ℤ) (state : State) → StandsFor (present s) state → lapse s id ≡ Some new
    → StandsFor (present new) (lapsed_in state id (session_at id state))

-- a put of another user outside `zk/` leaves keys that stand for the same state
abbrev pub ForeignStands : Type 0
ForeignStands = (s new : Store) (k v : Bytes) (state : State) → ((rest : Bytes) → k ≡ front ++ rest → ⊥) → StandsFor (present s) state
    → foreign s k v ≡ Some new → StandsFor (present new) state

-- a range leaves keys that stand for the same state
abbrev pub RangeStands : Type 0
RangeStands = (s new : Store) (q : RangeReq) (a : Answer) (state : State) → StandsFor (present s) state
    → carry s (ask.Range q) ≡ Some (new, a) → StandsFor (present new) state

-- a keepalive leaves keys that stand for the same state
abbrev pub AliveStands : Type 0
AliveStands = (s new : Store) (id : ℤ) (a : Answer) (state : State) → StandsFor (present s) state → carry s (ask.Alive id) ≡ Some (new, a)
    → StandsFor (present new) state

-- a grant leaves keys that stand for the same state
abbrev pub GrantStands : Type 0
GrantStands = (s new : Store) (id ttl : ℤ) (a : Answer) (state : State) → StandsFor (present s) state
    → carry s (ask.Grant id ttl) ≡ Some (new, a) → StandsFor (present new) state

-- a transaction that only reads leaves keys that stand for the same state
abbrev pub ReadsStand : Type 0
ReadsStand = (s new : Store) (guards : List Guard) (qs rs : List RangeReq) (a : Answer) (state : State) → StandsFor (present s) state
    → carry s (ask.Txn (record { guards = guards; success = map act.Range qs; failure = map act.Range rs })) ≡ Some (new, a)
    → StandsFor (present new) state

-- a transaction that changes nothing leaves keys that stand for the same state
abbrev pub UnchangedStands : Type 0
UnchangedStands = (s new : Store) (t : TxnReq) (a : Answer) (state : State) → StandsFor (present s) state
    → (worked s (chosen_acts s t)).changes ≡ [] → carry s (ask.Txn t) ≡ Some (new, a) → StandsFor (present new) state

-- ---- the first transaction

-- on a new store the first transaction isn't denied, succeeds at revision 2, answers the head that it put, and leaves keys that
-- stand for the first state
abbrev pub BeginStands : Type 0
BeginStands = (now : ℕ) → now < 2 ^ 62 → Begins now

-- in a store that has a head the first transaction changes nothing, and answers that head
abbrev pub BeginAgainChangesNothing : Type 0
BeginAgainChangesNothing = (s : Store) (now : ℕ) (head : Kv) → at (present s) HeadKey ≡ Some head
    → carry s (begin_ask now) ≡ Some (s, answer.Txn (revision s) false (part.Range (one_found (Some head)) ∷ []))

-- ---- the transaction of an update

-- an update's transaction that succeeds makes the changes at the store's next revision, and answers the head that it put
abbrev pub UpdateCommits : Type 0
UpdateCommits =
    (old new : Store) (guards : List Guard) (cs : List KeyChange) (ts : List Trigger) (again : List Act) (zxid : ℤ) (parts : List ActAns)
    → carry old (ask.Txn (update_txn guards cs ts again)) ≡ Some (new, answer.Txn zxid true parts) → IsCommitted old cs ts new zxid parts

-- an update's transaction isn't denied where its lists are short, each key is written once, each put's lease is there or 0, and
-- the store has room
abbrev pub UpdateIsAllowed : Type 0
UpdateIsAllowed = (s : Store) (guards : List Guard) (cs : List KeyChange) (ts : List Trigger) (again : List Act)
    → length guards ≤ max_operations → length cs + 2 ≤ max_operations → length again ≤ max_operations
    → are_distinct (cs ++ head_put ts ∷ []) ≡ true → have_leases s cs ≡ true → are_present_reads again ≡ true
    → revision s <ℤ last_revision → is_denied s (ask.Txn (update_txn guards cs ts again)) ≡ false

-- the bytes of an update's transaction are those of its guards, its changes, the head that it puts, the head's key that it then
-- reads, and the keys that it reads where a guard fails
abbrev pub UpdateHasItsSize : Type 0
UpdateHasItsSize = (guards : List Guard) (cs : List KeyChange) (ts : List Trigger) (again : List Act)
    → txn_size (update_txn guards cs ts again)
    ≡ sum_by guard_size guards + sum_by change_size cs + change_size (head_put ts) + length (key_bytes HeadKey) + sum_by act_size again

-- where the bytes of an update's transaction and its lists keep their bounds an etcd takes it
abbrev pub UpdateIsSendable : Type 0
UpdateIsSendable = (guards : List Guard) (cs : List KeyChange) (ts : List Trigger) (again : List Act) → length guards ≤ max_operations
    → length cs + 2 ≤ max_operations → length again ≤ max_operations
    → sum_by guard_size guards + sum_by change_size cs + change_size (head_put ts) + length (key_bytes HeadKey) + sum_by act_size again
    ≤ max_txn_size → IsSendable (update_txn guards cs ts again)

-- where the guards of an update hold, each key that it looked up was last put at the revision that it saw, or is absent as it was
-- then
abbrev pub GuardsTellWhatWasSeen : Type 0
GuardsTellWhatWasSeen = (now seen : Keys) (keys : List Bytes) → list_all (holds now) (guards_at seen keys) ≡ true
    → All (IsAsSeen now seen) keys

-- the guards of an update hold where each key that it looked up was last put at the revision that it saw, or is absent as it was
-- then
abbrev pub GuardsHoldAsSeen : Type 0
GuardsHoldAsSeen = (now seen : Keys) (keys : List Bytes) → All (IsAsSeen now seen) keys → list_all (holds now) (guards_at seen keys) ≡ true

-- where a guard fails and the transaction isn't denied, an update changes nothing, and answers what the keys that it looked up
-- and the head have now
abbrev pub UpdateLooksAgain : Type 0
UpdateLooksAgain = (s : Store) (seen : Keys) (keys : List Bytes) (acts : List Act) → is_denied s (update_ask seen keys acts) ≡ false
    → list_all (holds (present s)) (guards_at seen keys) ≡ false
    → carry s (update_ask seen keys acts)
    ≡ Some (s, answer.Txn (revision s) false (map (λ k. part.Range (one_found (get (present s) k))) (with_head_key keys)))

-- ---- children

-- the range of a node's children finds exactly the data keys of its children, in the order of the paths' bytes, where the state
-- is sound and each path of its tree is valid
abbrev pub ChildrenListed : Type 0
ChildrenListed = (keys : Keys) (s : State) (p : Bytes) → StandsFor keys s → IsSound s → HasValidPaths s.tree → IsTrue (is_path p)
    → map_keys (children_found keys p) ≡ map (λ q. child_front p ++ q) (children s.tree p)

-- each path of a bounded state's tree is valid
abbrev pub BoundedPathsAreValid : Type 0
BoundedPathsAreValid = (first : ℤ) (s : State) → IsBounded first s → HasValidPaths s.tree

-- a child's data key is its path after the front of its parent's children
abbrev pub ChildrenAreUnderTheirFront : Type 0
ChildrenAreUnderTheirFront = (p q : Bytes) → parent q ≡ Some p → child_front p ++ q ≡ key_bytes (DataKey q)
