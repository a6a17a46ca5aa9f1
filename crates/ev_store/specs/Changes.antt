-- A change as the store keeps it, and what every list of changes keeps.
use Rattle.std.specs.Prelude.{ℤ, Bool, true, not, ◌&&◌, List, [], ◌∷◌, map, Option, Some, None}
use Rattle.std.specs.List.{list_any, filter}
use Rattle.ev_types.specs.declared.answer.Kv.{Kv}
use Rattle.ev_types.specs.Lapses.{is_leased}
use Rattle.ev_types.specs.Store.{Change, Puts, Removes}
use Rattle.ev_store.specs.declared.change.Content.{Content}
use Rattle.zx_base.specs.Maps.{Bytes, same}

-- a key with what was put, or with nothing where it was removed
abbrev pub change_of : Bytes → Option Content → Change
change_of k None = Removes k
change_of k (Some c) = Puts k c.value c.lease

abbrev pub key_of : Change → Bytes
key_of (Puts k v lease) = k
key_of (Removes k) = k

-- the keys that a list of changes puts
abbrev pub put_keys : List Change → List Bytes
put_keys [] = []
put_keys (Puts k v lease ∷ cs) = k ∷ put_keys cs
put_keys (Removes k ∷ cs) = put_keys cs

abbrev pub are_distinct : List Bytes → Bool
are_distinct [] = true
are_distinct (k ∷ ks) = not (list_any (same k) ks) && are_distinct ks

-- the entries whose keys have the lease
abbrev pub leased_among : ℤ → List (Bytes × Kv) → List (Bytes × Kv)
leased_among id es = filter (λ e. is_leased id (Some e.1)) es

-- a list of changes puts no key twice
abbrev pub puts_once : List Change → Bool
puts_once cs = are_distinct (put_keys cs)

-- a list of changes writes no key twice, by puts and removals
abbrev pub writes_once : List Change → Bool
writes_once cs = are_distinct (map key_of cs)
