-- The values under the service's keys: a first byte, and a record's fields, big-endian. The first byte is 1, or 2 in the record of the
-- nodes of a session of layout 2. No two records of a kind that are within their bounds have the same value.
use Rattle.std.specs.Prelude.{◌≡◌, ℕ, ℤ, pos, Bool, true, false, ◌≤◌, ◌<◌, ◌^◌, ◌≤ℤ◌, List, ◌∷◌, ◌++◌, length, All, IsTrue}
use Rattle.std.specs.List.Sorted.{IsStrictlySortedBy}
use Rattle.std.specs.Ordering.{nat_cmp}
use Rattle.std.specs.Cmp.Lexicographic.{slice_cmp}
use Rattle.zk_model.specs.declared.layout.Layout.{Layout}
use Rattle.zk_model.specs.declared.layout.Layout.TheVariants.{One, Two}
use Rattle.zk_model.specs.declared.node.Trigger.{Trigger}
use Rattle.zk_model.specs.declared.node.Trigger.TheVariants.{Created, Deleted, Changed, Children}
use Rattle.zk_jute.specs.JuteWriting.{int_bytes, long_bytes, string_bytes, vector_bytes}
use Rattle.zk_model.specs.Paths.{is_path}
use Rattle.zk_model.specs.Watches.{trigger_path}
use Rattle.zx_base.specs.Maps.{Bytes}
use Rattle.zn_layout.specs.declared.record.NodeRec.{NodeRec}
use Rattle.zn_layout.specs.declared.record.CountRec.{CountRec}
use Rattle.zn_layout.specs.declared.record.LeaseRec.{LeaseRec}
use Rattle.zn_layout.specs.declared.record.SessionRec.{SessionRec}
use Rattle.zk_model.specs.Limits.{max_creates, max_frame, max_long, max_timeout, max_version, min_timeout}

-- ---- the bytes

unfoldable pub node_value : NodeRec → Bytes
node_value r = 1 ∷ (long_bytes r.czxid ++ int_bytes r.version ++ long_bytes r.ctime ++ long_bytes r.mtime ++ long_bytes r.owner ++ r.content)

unfoldable pub counts_value : CountRec → Bytes
counts_value r = 1 ∷ (int_bytes r.creates ++ int_bytes r.children)

abbrev pub layout_byte : Layout → ℕ
layout_byte One = 1
layout_byte Two = 2

unfoldable pub session_value : SessionRec → Bytes
session_value r = layout_byte r.layout ∷ vector_bytes string_bytes r.paths

unfoldable pub lease_value : LeaseRec → Bytes
lease_value r = 1 ∷ (int_bytes r.timeout ++ long_bytes r.attaches ++ r.passwd)

abbrev pub trigger_bytes : Trigger → Bytes
trigger_bytes (Created p) = 1 ∷ string_bytes p
trigger_bytes (Deleted p) = 2 ∷ string_bytes p
trigger_bytes (Changed p) = 3 ∷ string_bytes p
trigger_bytes (Children p) = 4 ∷ string_bytes p

unfoldable pub head_value : List Trigger → Bytes
head_value ts = 1 ∷ vector_bytes trigger_bytes ts

-- ---- which records there are

-- whether each ephemeral node of a session of this layout has a record of its counts
abbrev pub has_counts : Layout → Bool
has_counts One = true
has_counts Two = false

-- ---- the bounds of a record

-- a number that isn't negative and fits 64 bits with sign
pub record IsLongCount (n : ℤ) : Type 0 where
  pub least : pos 0 ≤ℤ n
  pub most : n ≤ℤ max_long

pub record IsNodeRec (r : NodeRec) : Type 0 where
  pub czxid : IsLongCount r.czxid
  pub version_least : pos 0 ≤ℤ r.version
  pub version_most : r.version ≤ℤ max_version
  pub ctime : IsLongCount r.ctime
  pub mtime : IsLongCount r.mtime
  pub owner : IsLongCount r.owner
  pub content : length r.content ≤ max_frame

pub record IsCountRec (r : CountRec) : Type 0 where
  pub children : pos 0 ≤ℤ r.children
  pub fewer : r.children ≤ℤ r.creates
  pub creates : r.creates ≤ℤ max_creates

-- paths as the record of a session's nodes lists them
pub record ArePaths (paths : List Bytes) : Type 0 where
  pub count : length paths < 2 ^ 31
  pub valid : All (λ p. IsTrue (is_path p)) paths
  pub rising : IsStrictlySortedBy (slice_cmp nat_cmp) paths

abbrev pub IsSessionRec : SessionRec → Type 0
IsSessionRec r = ArePaths r.paths

pub record IsLeaseRec (r : LeaseRec) : Type 0 where
  pub least : min_timeout ≤ℤ r.timeout
  pub most : r.timeout ≤ℤ max_timeout
  pub attached : pos 1 ≤ℤ r.attaches
  pub attaches : r.attaches ≤ℤ max_long
  pub passwd : length r.passwd ≡ 16

pub record IsHeadRec (ts : List Trigger) : Type 0 where
  pub count : length ts < 2 ^ 31
  pub valid : All (λ t. IsTrue (is_path (trigger_path t))) ts
