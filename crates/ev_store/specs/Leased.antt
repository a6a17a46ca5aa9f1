-- The keys that were put with each lease, as the index has them. No public contract names these words.
use Rattle.std.specs.Prelude.{Bool, true, false, ◌&&◌, ◌≡◌, ℕ, ℤ, List, [], ◌∷◌, if◌then◌else◌, Option, None}
use Rattle.std.specs.BTreeMap.{BTreeMap, get}
use Rattle.std.specs.List.{list_any}
use Rattle.std.specs.Option.{unwrap_or}
use Rattle.std.specs.Ordering.{int_cmp, int_eq}
use Rattle.ev_types.specs.declared.answer.Kv.{Kv}
use Rattle.ev_types.specs.Denials.{is_lease}
use Rattle.ev_types.specs.Lapses.{is_leased}
use Rattle.ev_types.specs.Store.{Change, Puts, Removes}
use Rattle.ev_store.specs.declared.versions.Version.{Version}
use Rattle.ev_store.specs.Changes.{key_of}
use Rattle.ev_store.specs.Versions.{last_state, taken, versions_of}
use Rattle.zx_base.specs.Maps.{Bytes, same}

-- a key as far as it has this lease
abbrev pub with_lease : ℤ → Option Kv → Option Kv
with_lease id o = if is_leased id o then o else None

-- the keys of the puts that named a lease
abbrev pub named_with : BTreeMap ℤ (List Bytes) → ℤ → List Bytes
named_with leased id = unwrap_or (get int_cmp leased id) []

abbrev pub names : List Bytes → Bytes → Bool
names ks q = list_any (λ k. same k q) ks

-- a change puts its key with this lease
abbrev pub gives_lease : ℤ → Change → Bool
gives_lease id (Puts k v lease) = is_lease id && int_eq id lease
gives_lease id (Removes k) = false

-- no lease loses a key
abbrev pub KeepsNames : BTreeMap ℤ (List Bytes) → BTreeMap ℤ (List Bytes) → Type 0
KeepsNames old new = (id : ℤ) (q : Bytes) → names (named_with old id) q ≡ true → names (named_with new id) q ≡ true

-- the lease that a change gives its key has the key
abbrev pub NamesChange : BTreeMap ℤ (List Bytes) → Change → Type 0
NamesChange leased c = (id : ℤ) → gives_lease id c ≡ true → names (named_with leased id) (key_of c) ≡ true

-- each lease has the keys whose last version has it
abbrev pub NamesLeased : BTreeMap ℤ (List Bytes) → BTreeMap Bytes (List Version) → Type 0
NamesLeased leased versions = (id : ℤ) (q : Bytes) → is_leased id (last_state q (versions_of versions q)) ≡ true → names (named_with leased id) q ≡ true

-- what is held of key q once all these keys were taken in
abbrev pub all_held : ℕ → BTreeMap Bytes (List Version) → Bytes → Option Kv → List Bytes → Option Kv
all_held r versions q o [] = o
all_held r versions q o (k ∷ ks) = all_held r versions q (taken r k (versions_of versions k) q o) ks
