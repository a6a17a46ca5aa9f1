-- What reading a stored value answers.
use Rattle.std.specs.Prelude.{◌≡◌, ℤ, drop, length, nat_lt, Option, Some, None, if◌then◌else◌}
use Rattle.zk_jute.specs.JuteReading.{front_long}
use Rattle.zx_base.specs.Maps.{Bytes}
use Rattle.zn_layout.specs.declared.record.HeadRec.{HeadRec}
use Rattle.zn_layout.specs.declared.fault.RecordFault.{RecordFault}
use Rattle.zn_layout.specs.declared.fault.RecordFault.TheVariants.{Damaged, Memory}
use Rattle.zn_layout.specs.declared.record.NodeRec.{NodeRec}
use Rattle.zn_layout.specs.declared.test.NodeNumbers.{NodeNumbers}
use Rattle.zn_layout.specs.Records.{head_value, IsHeadRec}

-- a record within its bounds, whose value this is
abbrev pub IsValueOf : {R : Type 0} → (R → Bytes) → (R → Type 0) → Bytes → R → Type 0
IsValueOf value_of IsWithin v r = IsWithin r × (v ≡ value_of r)

-- a record within its bounds has this value
abbrev pub IsSomeValue : {R : Type 0} → (R → Bytes) → (R → Type 0) → Bytes → Type 0
IsSomeValue {R = R} value_of IsWithin v = (r : R) × IsValueOf value_of IsWithin v r

-- no record within its bounds has this value
abbrev pub IsNoValue : {R : Type 0} → (R → Bytes) → (R → Type 0) → Bytes → Type 0
IsNoValue {R = R} value_of IsWithin v = (r : R) → IsWithin r → v ≡ value_of r → ⊥

-- the key and the value are given; or memory was refused
abbrev pub IsDamaged : Bytes → Bytes → RecordFault → Type 0
IsDamaged key v (Damaged k w) = (k ≡ key) × (w ≡ v)
IsDamaged key v Memory = Unit {0}

-- the value under this key is no record, and both are given; or memory was refused
abbrev pub IsFault : {R : Type 0} → (R → Bytes) → (R → Type 0) → Bytes → Bytes → RecordFault → Type 0
IsFault value_of IsWithin key v (Damaged k w) = (k ≡ key) × (w ≡ v) × IsNoValue value_of IsWithin v
IsFault value_of IsWithin key v Memory = Unit {0}

-- a record, or that there is none
abbrev pub IsReadAs : {R : Type 0} → (R → Bytes) → (R → Type 0) → Bytes → Option R → Type 0
IsReadAs value_of IsWithin v (Some r) = IsValueOf value_of IsWithin v r
IsReadAs value_of IsWithin v None = IsNoValue value_of IsWithin v

-- ---- a node's numbers, and its data

abbrev pub node_record : NodeNumbers → Bytes → NodeRec
node_record n content = record { czxid = n.czxid; version = n.version; ctime = n.ctime; mtime = n.mtime; owner = n.owner; content = content }

-- ---- the head, as a record with its list

-- the czxid in a node's value, which follows the first byte; None where the value is too short for it
abbrev pub czxid_in : Bytes → Option ℤ
czxid_in value = if nat_lt (length value) 9 then None else Some (front_long (drop 1 value))

abbrev pub head_bytes : HeadRec → Bytes
head_bytes r = head_value r.triggers

abbrev pub IsHeadWithin : HeadRec → Type 0
IsHeadWithin r = IsHeadRec r.triggers
