-- When the records that an update is decided on are those of a state. A zxid of 0 is the update's own.
use Rattle.std.specs.Prelude.{◌≡◌, ℕ, ℤ, pos, ◌≤ℤ◌, Bool, List, Option, Some, None}
use Rattle.zk_model.specs.declared.node.Node.{Node}
use Rattle.zk_model.specs.Limits.{max_version}
use Rattle.zk_service.specs.States.{Session}
use Rattle.zx_base.specs.Maps.{Bytes}
use Rattle.zn_layout.specs.declared.record.SessionRec.{SessionRec}
use Rattle.zn_layout.specs.Records.{IsLongCount, IsCountRec, IsSessionRec}
use Rattle.zn_layout.specs.StandsFor.{counts_record, nodes_record}
use Rattle.zn_view.specs.Needs.{own}
use Rattle.zn_updates.specs.declared.seen.SeenData.{SeenData}
use Rattle.zn_updates.specs.declared.seen.SeenCounts.{SeenCounts}

-- the bounds that every stored record keeps
pub record IsDataWithin (x : SeenData) : Type 0 where
  pub czxid : IsLongCount x.czxid
  pub version_least : pos 0 ≤ℤ x.version
  pub version_most : x.version ≤ℤ max_version
  pub ctime : IsLongCount x.ctime
  pub owner : IsLongCount x.owner

abbrev pub seen_data : ℤ → Node → SeenData
seen_data czxid n = record { czxid = czxid; version = n.version; ctime = n.ctime; owner = n.owner }

pub record IsSeenData (z : ℤ) (x : SeenData) (n : Node) : Type 0 where
  pub within : IsDataWithin x
  pub is : x ≡ seen_data x.czxid n
  pub czxid : n.czxid ≡ own z x.czxid

pub record IsSeenCounts (z : ℤ) (x : SeenCounts) (n : Node) (children : ℕ) (counted : Bool) : Type 0 where
  pub stored : x.is_stored ≡ counted
  pub within : IsCountRec x.counts
  pub is : x.counts ≡ counts_record n children
  pub pzxid : n.pzxid ≡ own z x.pzxid

pub record IsSeenNodes (nodes : SessionRec) (y : Session) (owned : List Bytes) : Type 0 where
  pub within : IsSessionRec nodes
  pub is : nodes ≡ nodes_record y owned

-- a record was seen exactly where the node is there
abbrev pub ShowsData : ℤ → Option SeenData → Option Node → Type 0
ShowsData z None None = Unit {0}
ShowsData z None (Some n) = ⊥
ShowsData z (Some x) None = ⊥
ShowsData z (Some x) (Some n) = IsSeenData z x n

abbrev pub ShowsCounts : ℤ → Option SeenCounts → Option Node → ℕ → Bool → Type 0
ShowsCounts z None None children counted = Unit {0}
ShowsCounts z None (Some n) children counted = ⊥
ShowsCounts z (Some x) None children counted = ⊥
ShowsCounts z (Some x) (Some n) children counted = IsSeenCounts z x n children counted

-- a record was seen, and it is that of the session's nodes
abbrev pub ShowsOwned : Option SessionRec → Session → List Bytes → Type 0
ShowsOwned None y owned = ⊥
ShowsOwned (Some nodes) y owned = IsSeenNodes nodes y owned
