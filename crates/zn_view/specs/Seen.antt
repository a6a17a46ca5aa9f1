-- A view: what some keys had at one revision, and which paths a node's children had.
use Rattle.std.specs.Prelude.{◌≡◌, ℤ, pos, ◌≤ℤ◌, List, [], ◌∷◌, take, Option, Some, None, All, if◌then◌else◌, IfSome}
use Rattle.ev_types.specs.declared.answer.Kv.{Kv}
use Rattle.ev_types.specs.Store.{last_revision}
use Rattle.zx_base.specs.Maps.{Bytes, same}
use Rattle.zn_layout.specs.Keys.{HeadKey, counts_front, data_front, head_name, key_bytes, lease_front, session_front}
use Rattle.zn_layout.specs.Reading.{IsSomeValue}
use Rattle.zn_layout.specs.Records.{node_value, counts_value, session_value, lease_value, head_value, IsNodeRec, IsCountRec, IsSessionRec, IsLeaseRec, IsHeadRec}
use Rattle.zn_view.specs.declared.kind.Kind.{Kind}
use Rattle.zn_view.specs.declared.kind.Kind.TheVariants.{Head, Data, Counts, Nodes, Life}
use Rattle.zn_view.specs.declared.snapshot.SeenKey.{SeenKey}
use Rattle.zn_view.specs.declared.snapshot.SeenChildren.{SeenChildren}
use Rattle.zn_view.specs.declared.snapshot.Snapshot.{Snapshot}

abbrev pub View : Type 0
View = Snapshot

abbrev pub empty_view : View
empty_view = record { revision = pos 0; keys = []; lists = [] }

-- what was found under a key: None where it wasn't looked up, Some None where it was absent
abbrev pub seen_in : Bytes → List SeenKey → Option (Option Kv)
seen_in k [] = None
seen_in k (x ∷ xs) = if same x.key k then Some x.found else seen_in k xs

abbrev pub seen : View → Bytes → Option (Option Kv)
seen v k = seen_in k v.keys

-- None where nothing was found, or nothing looked up
abbrev pub found_of : Option (Option Kv) → Option Kv
found_of None = None
found_of (Some found) = found

-- the paths of a node's children: None where they weren't listed
abbrev pub listed_in : Bytes → List SeenChildren → Option (List Bytes)
listed_in p [] = None
listed_in p (x ∷ xs) = if same x.path p then Some x.paths else listed_in p xs

abbrev pub listed : View → Bytes → Option (List Bytes)
listed v p = listed_in p v.lists

-- ---- the head, whose mod_revision is the zxid and whose version is the number of the last update

abbrev pub head_of : View → Option Kv
head_of v = found_of (seen v (key_bytes HeadKey))

-- 0 without a head
abbrev pub head_zxid : Option Kv → ℤ
head_zxid None = pos 0
head_zxid (Some kv) = kv.mod_revision

abbrev pub head_number : Option Kv → ℤ
head_number None = pos 0
head_number (Some kv) = kv.version

-- ---- the records that the values are

-- by the key's first five bytes
abbrev pub kind_in : Bytes → Option Kind
kind_in first =
    if same first data_front then Some Data
    else if same first counts_front then Some Counts
    else if same first session_front then Some Nodes
    else if same first lease_front then Some Life
    else None

-- the kind that a key's first bytes tell; each key of the layout has one
abbrev pub kind_of_bytes : Bytes → Option Kind
kind_of_bytes key = if same key head_name then Some Head else kind_in (take 5 key)

-- a value is a record of a kind, within the record's bounds; without a kind any value will do
abbrev pub IsOfKind : Option Kind → Bytes → Type 0
IsOfKind None value = Unit {0}
IsOfKind (Some Head) value = IsSomeValue head_value IsHeadRec value
IsOfKind (Some Data) value = IsSomeValue node_value IsNodeRec value
IsOfKind (Some Counts) value = IsSomeValue counts_value IsCountRec value
IsOfKind (Some Nodes) value = IsSomeValue session_value IsSessionRec value
IsOfKind (Some Life) value = IsSomeValue lease_value IsLeaseRec value

-- what is kept under a key is a record of the key's kind
abbrev pub IsRecord : Kv → Type 0
IsRecord kv = IsOfKind (kind_of_bytes kv.key) kv.value

-- a number that an etcd's revisions, versions and counts can have
pub record IsCountNumber (n : ℤ) : Type 0 where
  pub least : pos 0 ≤ℤ n
  pub most : n ≤ℤ last_revision

pub record AreCounts (kv : Kv) : Type 0 where
  pub revision : IsCountNumber kv.mod_revision
  pub version : IsCountNumber kv.version

-- what was found is kept under the key that was looked up, is a record of the key's kind, and has numbers in an etcd's range
pub record IsFound (key : Bytes) (kv : Kv) : Type 0 where
  pub named : kv.key ≡ key
  pub value : IsRecord kv
  pub numbers : AreCounts kv

abbrev pub IsSeen : SeenKey → Type 0
IsSeen x = IfSome x.found (IsFound x.key)

-- what each view keeps
pub record IsKept (v : View) : Type 0 where
  pub revision : IsCountNumber v.revision
  pub keys : All IsSeen v.keys
