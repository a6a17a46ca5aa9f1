-- How a view is read from an etcd: ranges at one revision, and what their answers show. How a plan is asked: a guarded
-- transaction whose failure reads what was guarded.
use Rattle.std.specs.Prelude.{◌≡◌, ℤ, pos, nat_abs, Bool, true, false, List, [], ◌∷◌, ◌++◌, map, filter, drop, Option, Some, None, All, Contains, IfSome, if◌then◌else◌}
use Rattle.ev_types.specs.declared.answer.ActAns.{ActAns}
use Rattle.ev_types.specs.declared.answer.ActAns.TheVariants as part
use Rattle.ev_types.specs.declared.answer.Kv.{Kv}
use Rattle.ev_types.specs.declared.ask.Act.{Act}
use Rattle.ev_types.specs.declared.ask.Act.TheVariants as act
use Rattle.ev_types.specs.declared.ask.Ask.{Ask}
use Rattle.ev_types.specs.declared.ask.Ask.TheVariants as ask
use Rattle.ev_types.specs.declared.ask.Guard.{Guard}
use Rattle.ev_types.specs.declared.ask.RangeReq.{RangeReq}
use Rattle.ev_types.specs.declared.ask.TxnReq.{TxnReq}
use Rattle.ev_types.specs.Ranges.{is_within}
use Rattle.ev_types.specs.Reads.{are_present_reads}
use Rattle.ev_types.specs.Store.{mod_of}
use Rattle.zx_base.specs.Maps.{Bytes, same}
use Rattle.zn_layout.specs.Changes.{KeyChange, Put, are_distinct, head_put, update_acts}
use Rattle.zn_layout.specs.Keys.{HeadKey, LeaseKey, key_bytes}
use Rattle.zn_layout.specs.Listing as layout
use Rattle.zn_layout.specs.Records.{IsHeadRec}
use Rattle.zn_view.specs.declared.plan.Plan.{Plan}
use Rattle.zn_view.specs.declared.plan.Who.{Who}
use Rattle.zn_view.specs.declared.snapshot.SeenKey.{SeenKey}
use Rattle.zn_view.specs.declared.want.Want.{Want}
use Rattle.zn_view.specs.declared.want.Want.TheVariants as want
use Rattle.zn_view.specs.Seen.{View, seen}

-- ---- the ranges that are read

-- the data keys of a node's children: those of `/a` are from `zk/d/0002/a/` up to `zk/d/0002/a0`, and those of the root from
-- `zk/d/0001/` up to `zk/d/00010`
unfoldable pub children_start : Bytes → Bytes
children_start p = layout.children_from p

unfoldable pub children_until : Bytes → Bytes
children_until p = layout.children_end p

-- the range that shows what is wanted; of children it shows the keys without their values
abbrev pub range_of : ℤ → Want → RangeReq
range_of r (want.Key k) = record { key = k; end = []; revision = r; limit = pos 0; keys_only = false }
range_of r (want.Children p) = record { key = children_start p; end = children_until p; revision = r; limit = pos 0; keys_only = true }

abbrev pub ranges_of : ℤ → List Want → List Act
ranges_of r ws = map (λ w. act.Range (range_of r w)) ws

-- a view's first round is read at revision 0, which is the present; each further one at the revision of the first
abbrev pub reading : ℤ → List Want → Ask
reading r ws = ask.Txn (record { guards = []; success = ranges_of r ws; failure = [] })

-- a plan's transaction
abbrev pub plan_txn : Plan → TxnReq
plan_txn p = record { guards = p.guards; success = p.success; failure = ranges_of (pos 0) p.again }

abbrev pub transaction : Plan → Ask
transaction p = ask.Txn (plan_txn p)

-- ---- what an answer shows

abbrev pub found_in : ActAns → List Kv
found_in part.Put = []
found_in (part.Deleted n) = []
found_in (part.Range a) = a.kvs

-- the first that is kept under this key; any other key that was found is passed over
abbrev pub kept_under : Bytes → List Kv → Option Kv
kept_under k [] = None
kept_under k (kv ∷ kvs) = if same kv.key k then Some kv else kept_under k kvs

-- a child's path follows the nine bytes of its key's kind and depth
abbrev pub path_in : Kv → Bytes
path_in kv = drop 9 kv.key

abbrev pub is_child_of : Bytes → Kv → Bool
is_child_of p kv = is_within (children_start p) (children_until p) kv.key

abbrev pub paths_in : Bytes → List Kv → List Bytes
paths_in p kvs = map path_in (filter (is_child_of p) kvs)

-- the view with one more answer to a want
abbrev pub with_part : View → Want → ActAns → View
with_part v (want.Key k) a = record v { keys = v.keys ++ record { key = k; found = kept_under k (found_in a) } ∷ [] }
with_part v (want.Children p) a = record v { lists = v.lists ++ record { path = p; paths = paths_in p (found_in a) } ∷ [] }

abbrev pub with_parts : View → List Want → List ActAns → View
with_parts v [] parts = v
with_parts v (w ∷ ws) [] = v
with_parts v (w ∷ ws) (a ∷ more) = with_parts (with_part v w a) ws more

-- what the last part found: of a plan that succeeds, the head
abbrev pub last_part : List ActAns → List Kv
last_part [] = []
last_part (a ∷ []) = found_in a
last_part (a ∷ b ∷ more) = last_part (b ∷ more)

-- ---- some of the keys that a view saw

abbrev pub with_found : Bytes → Option (Option Kv) → List SeenKey → List SeenKey
with_found k None xs = xs
with_found k (Some o) xs = record { key = k; found = o } ∷ xs

-- these keys as the view saw them; one that was not looked up is left out
abbrev pub picked : View → List Bytes → List SeenKey
picked v [] = []
picked v (k ∷ ks) = with_found k (seen v k) (picked v ks)

-- the view with these keys alone
abbrev pub narrowed : View → List Bytes → View
narrowed v ks = record v { keys = picked v ks }

-- ---- what a plan that is asked says, beside what it is worth

-- a guard on each of these keys, but for the head, at the revision that was seen
abbrev pub guards_of : List SeenKey → List Guard
guards_of [] = []
guards_of (x ∷ xs) = if same x.key (key_bytes HeadKey) then guards_of xs else record { key = x.key; mod_revision = mod_of x.found } ∷ guards_of xs

abbrev pub head_want : Want
head_want = want.Key (key_bytes HeadKey)

-- the guarded keys
abbrev pub guarded_wants : List SeenKey → List Want
guarded_wants [] = []
guarded_wants (x ∷ xs) = if same x.key (key_bytes HeadKey) then guarded_wants xs else want.Key x.key ∷ guarded_wants xs

-- the guarded keys, and the head last
abbrev pub again_of : List SeenKey → List Want
again_of xs = guarded_wants xs ++ head_want ∷ []

-- the last operation reads the head
abbrev pub ShowsHead : List Act → Type 0
ShowsHead acts = (first : List Act) × (acts ≡ first ++ ranges_of (pos 0) (head_want ∷ []))

abbrev pub lease_guard : Who → Guard
lease_guard who = record { key = key_bytes (LeaseKey (nat_abs who.session)); mod_revision = who.mine }

-- Some of the keys that the view saw are guarded as it saw them, the session's life among them, and are read again where a
-- guard does not hold. (Which ones: a plan of a single request guards what the request reads, see `Needs`.)
pub record IsAskedPlan (who : Who) (v : View) (p : Plan) : Type 0 where
  pub keys : List SeenKey
  pub among : All (Contains v.keys) keys
  pub guards : p.guards ≡ guards_of keys
  pub again : p.again ≡ again_of keys
  pub lease : Contains p.guards (lease_guard who)
  pub shows : ShowsHead p.success

-- ---- what a plan writes

abbrev pub IsLeaseless : KeyChange → Type 0
IsLeaseless c = IfSome c.put (λ (w : Put). w.lease ≡ pos 0)

-- It writes keys of the service alone, and no put has a lease. The head is put last, with what watches see, and then read. Where a
-- guard does not hold nothing is written.
pub record WritesOwnKeys (p : Plan) : Type 0 where
  pub changes : List KeyChange
  pub acts : p.success ≡ update_acts changes p.triggers
  pub leases : All IsLeaseless changes
  pub triggers : IsHeadRec p.triggers
  pub reads : are_present_reads (ranges_of (pos 0) p.again) ≡ true

-- it writes keys of the service alone, and none of them twice
pub record WritesOnce (p : Plan) : Type 0 where
  pub own : WritesOwnKeys p
  pub once : are_distinct (own.changes ++ head_put p.triggers ∷ []) ≡ true
