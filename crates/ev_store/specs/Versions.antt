-- A key's versions, as the index has them: what each change left of the key, in the order of the revisions. No public contract
-- names these words.
use Rattle.std.specs.Prelude.{Bool, ℕ, ◌≤◌, ℤ, pos, true, false, ◌≡◌, ◌+◌, nat_le, List, [], ◌∷◌, ◌++◌, take, slice_get, if◌then◌else◌, Option, Some, None}
use Rattle.std.specs.List.{filter}
use Rattle.std.specs.List.Sorted.{IsNonDecreasingBy}
use Rattle.std.specs.Option.{unwrap_or, option_or}
use Rattle.std.specs.BTreeMap.{BTreeMap, get}
use Rattle.std.specs.Ordering.{nat_cmp}
use Rattle.std.specs.Cmp.Lexicographic.{slice_cmp}
use Rattle.ev_types.specs.declared.answer.Kv.{Kv}
use Rattle.ev_types.specs.declared.ask.RangeReq.{RangeReq}
use Rattle.ev_types.specs.Ranges.{is_within}
use Rattle.ev_types.specs.Store.{Change}
use Rattle.ev_store.specs.declared.versions.Kept.{Kept}
use Rattle.ev_store.specs.declared.versions.Version.{Version}
use Rattle.ev_store.specs.Changes.{key_of}
use Rattle.ev_store.specs.Folds.{key_after_change, key_after_changes, key_after_revisions}
use Rattle.zx_base.specs.Maps.{Bytes, same}

abbrev pub kept_kv : Bytes → Kept → Kv
kept_kv k c = record { key = k; value = c.value; create_revision = c.create_revision; mod_revision = c.mod_revision; version = c.version; lease = c.lease }

abbrev pub kept_state : Bytes → Option Kept → Option Kv
kept_state k None = None
kept_state k (Some c) = Some (kept_kv k c)

-- the key as a version has it
abbrev pub state_of : Bytes → Version → Option Kv
state_of k v = kept_state k v.content

-- the key as the last of the versions has it, after what it had before them
abbrev pub state_after : Bytes → Option Kv → List Version → Option Kv
state_after k o [] = o
state_after k o (v ∷ vs) = state_after k (state_of k v) vs

abbrev pub last_state : Bytes → List Version → Option Kv
last_state k vs = state_after k None vs

abbrev pub is_up_to : ℕ → Version → Bool
is_up_to r v = nat_le v.revision r

-- the key as the last version up to revision r has it
abbrev pub state_at : Bytes → ℕ → List Version → Option Kv
state_at k r vs = last_state k (filter (is_up_to r) vs)

-- no version is of an earlier revision than the one before it
abbrev pub AreInOrder : List Version → Type 0
AreInOrder vs = IsNonDecreasingBy (λ v. v.revision) vs

-- all are of revisions up to n
abbrev pub AreUpTo : ℕ → List Version → Type 0
AreUpTo n [] = Unit {0}
AreUpTo n (v ∷ vs) = (v.revision ≤ n) × AreUpTo n vs

abbrev pub versions_of : BTreeMap Bytes (List Version) → Bytes → List Version
versions_of m q = unwrap_or (get (slice_cmp nat_cmp) m q) []

-- a version shows its key as a change with this number leaves it, over the last of these versions
abbrev pub ShowsChange : ℤ → Change → BTreeMap Bytes (List Version) → Version → Type 0
ShowsChange number c m v = state_of (key_of c) v ≡ key_after_change number (key_of c) (last_state (key_of c) (versions_of m (key_of c))) c

-- a change at revision r, which has this number, adds one version to its key, and none to others
pub record AddsOne (r : ℕ) (number : ℤ) (c : Change) (q : Bytes) (old new : List Version) : Type 0 where
  pub version : Version
  pub added : new ≡ old ++ version ∷ []
  pub revision : version.revision ≡ r
  pub state : state_of q version ≡ key_after_change number q (last_state q old) c

pub record AddsChange (r : ℕ) (number : ℤ) (c : Change) (q : Bytes) (old new : List Version) : Type 0 where
  pub own : same (key_of c) q ≡ true → AddsOne r number c q old new
  pub other : same (key_of c) q ≡ false → new ≡ old

-- ---- the index

-- the changes of the revision after the first n, none where there is none
abbrev pub nth_changes : ℕ → List (List Change) → List Change
nth_changes n css = unwrap_or (slice_get css n) []

-- a key's versions stand for the first `indexed` revisions, and for some first changes of the next one
pub record StandFor (css : List (List Change)) (indexed : ℕ) (some_next : List Change) (q : Bytes) (vs : List Version) : Type 0 where
  pub in_order : AreInOrder vs
  pub up_to : AreUpTo (indexed + 1) vs
  pub whole : (r : ℕ) → r ≤ indexed → state_at q r vs ≡ key_after_revisions 1 q None (take r css)
  pub last : last_state q vs ≡ key_after_changes (pos (indexed + 1)) q (key_after_revisions 1 q None (take indexed css)) some_next

-- what a key of a range has at revision r
abbrev pub within_at : RangeReq → ℕ → Bytes → List Version → Option Kv
within_at range r q vs = if is_within range.key range.end q then state_at q r vs else None

-- the index has `indexed` revisions, and `begun` changes of the next one
abbrev pub IsIndexed : List (List Change) → ℕ → ℕ → Bytes → BTreeMap Bytes (List Version) → Type 0
IsIndexed css indexed begun q m = StandFor css indexed (take begun (nth_changes indexed css)) q (versions_of m q)

-- what is held of key q once the key k with its versions was taken in
abbrev pub taken : ℕ → Bytes → List Version → Bytes → Option Kv → Option Kv
taken r k vs q o = if same k q then option_or (state_at k r vs) o else o

-- what is held of key q once all these keys were taken in
abbrev pub all_taken : ℕ → Bytes → Option Kv → List (Bytes × List Version) → Option Kv
all_taken r q o [] = o
all_taken r q o (e ∷ es) = all_taken r q (taken r e.0 e.1 q o) es
