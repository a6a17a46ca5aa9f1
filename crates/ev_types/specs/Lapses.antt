-- What changes a store besides its clients' asks: a lease that lapses, and a put of another user (etcd API reference,
-- "Lease": a lease's keys are deleted when it expires).
use Rattle.std.specs.Prelude.{ℤ, pos, Bool, false, not, ◌&&◌, ◌||◌, List, [], ◌∷◌, map, if◌then◌else◌, Option, Some, None}
use Rattle.std.specs.Ordering.{int_eq}
use Rattle.std.specs.FinMap.{get, remove, retain_keys, keys}
use Rattle.ev_types.specs.declared.answer.Kv.{Kv}
use Rattle.ev_types.specs.Store.{Store, Change, Puts, Removes, present, grown}
use Rattle.ev_types.specs.Denials.{is_lease, has_lease, is_full_store}
use Rattle.zx_base.specs.Maps.{Bytes}

-- a key is there and is attached to this lease; 0 is no lease
abbrev pub is_leased : ℤ → Option Kv → Bool
is_leased id None = false
is_leased id (Some kv) = is_lease id && int_eq id kv.lease

-- the lease's keys, in the order of their bytes
abbrev pub leased_keys : Store → ℤ → List Bytes
leased_keys s id = keys (retain_keys (present s) (λ k. is_leased id (get (present s) k)))

abbrev pub removals : List Bytes → List Change
removals ks = map Removes ks

-- the lease goes, and all its keys at one revision; None where the lease isn't there, or has keys and no revision is to come
unfoldable pub lapse : Store → ℤ → Option Store
lapse s id =
    if not (has_lease s id) || is_full_store s (removals (leased_keys s id)) then None
    else Some (grown (record s { leases = remove s.leases id }) (removals (leased_keys s id)))

-- a put without a lease; None where there is no revision to come
unfoldable pub foreign : Store → Bytes → Bytes → Option Store
foreign s k v = if is_full_store s (Puts k v (pos 0) ∷ []) then None else Some (grown s (Puts k v (pos 0) ∷ []))
