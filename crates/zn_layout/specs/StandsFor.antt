-- Which keys stand for a state of the service: one clause for each kind of key, and no other key below `zk/`.
use Rattle.std.specs.Prelude.{◌≡◌, ℕ, ℤ, pos, Bool, cond, ◌≤ℤ◌, true, false, List, ◌++◌, Option, Some, None}
use Rattle.std.specs.Ordering.{int_eq}
use Rattle.std.specs.FinMap.{get}
use Rattle.ev_types.specs.declared.answer.Kv.{Kv}
use Rattle.ev_types.specs.Ranges.{Keys}
use Rattle.ev_types.specs.Store.{last_revision}
use Rattle.zk_model.specs.declared.node.Node.{Node}
use Rattle.zk_model.specs.Znodes.{num_children, owned}
use Rattle.zk_service.specs.States.{State, Session, session_at}
use Rattle.zx_base.specs.Maps.{Bytes}
use Rattle.zn_layout.specs.declared.record.NodeRec.{NodeRec}
use Rattle.zn_layout.specs.declared.record.CountRec.{CountRec}
use Rattle.zn_layout.specs.declared.record.LeaseRec.{LeaseRec}
use Rattle.zn_layout.specs.declared.record.SessionRec.{SessionRec}
use Rattle.zn_layout.specs.Keys.{Key, HeadKey, DataKey, CountsKey, SessionKey, LeaseKey, front, key_bytes}
use Rattle.zn_layout.specs.Records.{has_counts, node_value, counts_value, session_value, lease_value, head_value, IsNodeRec, IsCountRec, IsSessionRec, IsLeaseRec, IsHeadRec}

-- ---- what a key has, apart from what only the head needs

-- the value, the revision of its last put, and the lease, 0 for none
pub record Stored : Type 0 where
  pub value : Bytes
  pub revision : ℤ
  pub lease : ℤ

abbrev pub stored_of : Option Kv → Option Stored
stored_of None = None
stored_of (Some kv) = Some (record { value = kv.value; revision = kv.mod_revision; lease = kv.lease })

abbrev pub at : Keys → Key → Option Kv
at keys k = get keys (key_bytes k)

-- ---- what it means

-- a stored czxid of 0 stands for the revision of the record's put, which made the node
abbrev pub czxid_of : ℤ → ℤ → ℤ
czxid_of stored revision = cond (int_eq stored (pos 0)) revision stored

abbrev pub data_record : Node → ℤ → NodeRec
data_record n stored = record { czxid = stored; version = n.version; ctime = n.ctime; mtime = n.mtime; owner = n.owner; content = n.content }

pub record IsData (o : Stored) (n : Node) : Type 0 where
  pub stored : ℤ
  pub fits : IsNodeRec (data_record n stored)
  pub value : o.value ≡ node_value (data_record n stored)
  pub made : n.czxid ≡ czxid_of stored o.revision
  pub changed : n.mzxid ≡ o.revision
  pub free : o.lease ≡ pos 0

abbrev pub counts_record : Node → ℕ → CountRec
counts_record n children = record { creates = n.creates; children = pos children }

pub record IsCounts (o : Stored) (n : Node) (children : ℕ) : Type 0 where
  pub fits : IsCountRec (counts_record n children)
  pub value : o.value ≡ counts_value (counts_record n children)
  pub pzxid : n.pzxid ≡ o.revision
  pub free : o.lease ≡ pos 0

-- the key is there exactly where the node is, and has its data
abbrev pub DataMeans : Option Node → Option Stored → Type 0
DataMeans None None = Unit {0}
DataMeans None (Some o) = ⊥
DataMeans (Some n) None = ⊥
DataMeans (Some n) (Some o) = IsData o n

-- a node without a record of its counts: it has had no child since its create
pub record IsUncounted (n : Node) (children : ℕ) : Type 0 where
  pub creates : n.creates ≡ pos 0
  pub childless : children ≡ 0
  pub pzxid : n.pzxid ≡ n.czxid

-- the key is there exactly where the node is and has a record of its counts, and has the counts of its children
abbrev pub CountsMean : Option Node → ℕ → Bool → Option Stored → Type 0
CountsMean None children counted None = Unit {0}
CountsMean None children counted (Some o) = ⊥
CountsMean (Some n) children true None = ⊥
CountsMean (Some n) children true (Some o) = IsCounts o n children
CountsMean (Some n) children false None = IsUncounted n children
CountsMean (Some n) children false (Some o) = ⊥

-- whether a node has a record of its counts, by the session that owns it, if one does: an ephemeral node of a session of layout 2 has
-- none
abbrev pub is_counted : Option Session → Bool
is_counted None = true
is_counted (Some x) = has_counts x.layout

abbrev pub is_counted_in : State → Option Node → Bool
is_counted_in s None = true
is_counted_in s (Some n) = is_counted (session_at n.owner s)

pub record IsNodes (o : Stored) (r : SessionRec) : Type 0 where
  pub fits : IsSessionRec r
  pub value : o.value ≡ session_value r
  pub free : o.lease ≡ pos 0

abbrev pub nodes_record : Session → List Bytes → SessionRec
nodes_record x paths = record { layout = x.layout; paths = paths }

-- the key is there exactly where the session is open, and has its layout and the paths of the nodes that it owns
abbrev pub NodesMean : Option Session → List Bytes → Option Stored → Type 0
NodesMean None paths None = Unit {0}
NodesMean None paths (Some o) = ⊥
NodesMean (Some x) paths None = ⊥
NodesMean (Some x) paths (Some o) = IsNodes o (nodes_record x paths)

abbrev pub life_record : Session → ℤ → LeaseRec
life_record x attaches = record { timeout = x.timeout; attaches = attaches; passwd = x.passwd }

pub record IsLife (o : Stored) (id : ℕ) (x : Session) : Type 0 where
  pub attaches : ℤ
  pub fits : IsLeaseRec (life_record x attaches)
  pub value : o.value ≡ lease_value (life_record x attaches)
  pub attached : x.attached ≡ o.revision
  pub leased : o.lease ≡ pos id
  pub alive : x.lapsed ≡ false

-- the key is there exactly where the session is open and hasn't lapsed, and is attached to its lease
abbrev pub LifeMeans : ℕ → Option Session → Option Stored → Type 0
LifeMeans id None None = Unit {0}
LifeMeans id None (Some o) = ⊥
LifeMeans id (Some x) None = x.lapsed ≡ true
LifeMeans id (Some x) (Some o) = IsLife o id x

-- one clause for each kind of key but the head
abbrev pub Means : State → Key → Option Stored → Type 0
Means s HeadKey o = Unit {0}
Means s (DataKey p) o = DataMeans (get s.tree p) o
Means s (CountsKey p) o = CountsMean (get s.tree p) (num_children s.tree p) (is_counted_in s (get s.tree p)) o
Means s (SessionKey id) o = NodesMean (session_at (pos id) s) (owned s.tree (pos id)) o
Means s (LeaseKey id) o = LifeMeans id (session_at (pos id) s) o

-- the head: the zxid, the number and the triggers of the last update
pub record IsHead (kv : Kv) (s : State) : Type 0 where
  pub fits : IsHeadRec s.triggers
  pub value : kv.value ≡ head_value s.triggers
  pub zxid : kv.mod_revision ≡ s.zxid
  pub number : kv.version ≡ pos s.updates
  pub free : kv.lease ≡ pos 0

abbrev pub HeadMeans : Option Kv → State → Type 0
HeadMeans None s = ⊥
HeadMeans (Some kv) s = IsHead kv s

-- the keys below `zk/` are those of the layout, and every key was put at a revision that a store can have
pub record AreLayout (keys : Keys) : Type 0 where
  pub no_other : (rest : Bytes) (kv : Kv) → get keys (front ++ rest) ≡ Some kv → (k : Key) × (front ++ rest ≡ key_bytes k)
  pub least : (key : Bytes) (kv : Kv) → get keys key ≡ Some kv → pos 1 ≤ℤ kv.mod_revision
  pub most : (key : Bytes) (kv : Kv) → get keys key ≡ Some kv → kv.mod_revision ≤ℤ last_revision

pub record StandsFor (keys : Keys) (s : State) : Type 0 where
  pub head : HeadMeans (at keys HeadKey) s
  pub each : (k : Key) → Means s k (stored_of (at keys k))
  pub layout : AreLayout keys
