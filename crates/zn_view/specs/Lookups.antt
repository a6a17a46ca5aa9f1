-- What a view shows of a node and of a session.
use Rattle.std.specs.Prelude.{◌≡◌, drop, Option, Some, None}
use Rattle.ev_types.specs.declared.answer.Kv.{Kv}
use Rattle.zn_layout.specs.declared.record.CountRec.{CountRec}
use Rattle.zn_layout.specs.declared.record.LeaseRec.{LeaseRec}
use Rattle.zn_layout.specs.declared.record.SessionRec.{SessionRec}
use Rattle.zn_layout.specs.declared.test.NodeNumbers.{NodeNumbers}
use Rattle.zn_layout.specs.Keys.{Key, key_bytes}
use Rattle.zn_layout.specs.Reading.{IsValueOf, node_record}
use Rattle.zn_layout.specs.Records.{node_value, counts_value, session_value, lease_value, IsNodeRec, IsCountRec, IsSessionRec, IsLeaseRec}
use Rattle.zn_view.specs.Seen.{View, seen, found_of}

-- the key was looked up
abbrev pub HasSeen : View → Key → Type 0
HasSeen v k = seen v (key_bytes k) ≡ None → ⊥

abbrev pub sees : View → Key → Option (Option Kv)
sees v k = seen v (key_bytes k)

abbrev pub found_at : View → Key → Option Kv
found_at v k = found_of (sees v k)

-- a node's numbers, which its data follow in the value
abbrev pub IsNodeIn : Kv → NodeNumbers → Type 0
IsNodeIn kv n = IsValueOf node_value IsNodeRec kv.value (node_record n (drop 37 kv.value))

abbrev pub IsCountsIn : Kv → CountRec → Type 0
IsCountsIn kv r = IsValueOf counts_value IsCountRec kv.value r

abbrev pub IsNodesIn : Kv → SessionRec → Type 0
IsNodesIn kv r = IsValueOf session_value IsSessionRec kv.value r

-- the key was found, and its value is this record
abbrev pub HasNodesIn : View → Key → SessionRec → Type 0
HasNodesIn v k r = (kv : Kv) × (sees v k ≡ Some (Some kv)) × IsNodesIn kv r

abbrev pub IsLifeIn : Kv → LeaseRec → Type 0
IsLifeIn kv r = IsValueOf lease_value IsLeaseRec kv.value r
